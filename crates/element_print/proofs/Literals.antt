-- Numbers and their widths, one by one.
use Rattle.std.proofs.Common.{◌≡◌, ℕ, zero, suc, ◌+◌, ◌<◌, List, [], ◌∷◌, length, drop, slice_index, refl, arith, add-one}
use Rattle.element_lang.specs.Surface.{literals}
use Rattle.element_print.specs.Lengths.{literal_length, literals_sum}

without : (i : ℕ) (ns : List ℕ) → i < length ns → literals [] (drop i ns) ≡ record { value = slice_index ns i; width = 0 } ∷ literals [] (drop (suc i) ns)
without i [] h = absurd (omega arith)
without zero (n ∷ ns) h = refl
without (suc i) (n ∷ ns) h = let within : i < length ns = omega arith in without i ns within

from_here : (i : ℕ) (ws ns : List ℕ) → i < length ns
    → literals (drop i ws) (drop i ns) ≡ record { value = slice_index ns i; width = slice_index ws i } ∷ literals (drop (suc i) ws) (drop (suc i) ns)
from_here zero ws [] h = absurd (omega arith)
from_here zero [] (n ∷ ns) h = refl
from_here zero (w ∷ ws) (n ∷ ns) h = refl
from_here (suc i) ws [] h = absurd (omega arith)
from_here (suc i) [] (n ∷ ns) h = let within : i < length ns = omega arith in without i ns within
from_here (suc i) (w ∷ ws) (n ∷ ns) h = let within : i < length ns = omega arith in from_here i ws ns within

-- the numbers from a place on
pub literals_more : (i : ℕ) (ws ns : List ℕ) → i < length ns
    → literals (drop i ws) (drop i ns) ≡ record { value = slice_index ns i; width = slice_index ws i } ∷ literals (drop (i + 1) ws) (drop (i + 1) ns)
literals_more i ws ns h = rw add-one (from_here i ws ns h)

sum_without : (i : ℕ) (ns : List ℕ) → i < length ns → literals_sum [] (drop i ns) ≡ literal_length (slice_index ns i) 0 + literals_sum [] (drop (suc i) ns)
sum_without i [] h = absurd (omega arith)
sum_without zero (n ∷ ns) h = refl
sum_without (suc i) (n ∷ ns) h = let within : i < length ns = omega arith in sum_without i ns within

sum_from_here : (i : ℕ) (ws ns : List ℕ) → i < length ns
    → literals_sum (drop i ws) (drop i ns) ≡ literal_length (slice_index ns i) (slice_index ws i) + literals_sum (drop (suc i) ws) (drop (suc i) ns)
sum_from_here zero ws [] h = absurd (omega arith)
sum_from_here zero [] (n ∷ ns) h = refl
sum_from_here zero (w ∷ ws) (n ∷ ns) h = refl
sum_from_here (suc i) ws [] h = absurd (omega arith)
sum_from_here (suc i) [] (n ∷ ns) h = let within : i < length ns = omega arith in sum_without i ns within
sum_from_here (suc i) (w ∷ ws) (n ∷ ns) h = let within : i < length ns = omega arith in sum_from_here i ws ns within

-- the lengths of the numbers from a place on
pub literals_sum_more : (i : ℕ) (ws ns : List ℕ) → i < length ns
    → literals_sum (drop i ws) (drop i ns) ≡ literal_length (slice_index ns i) (slice_index ws i) + literals_sum (drop (i + 1) ws) (drop (i + 1) ns)
literals_sum_more i ws ns h = rw add-one (sum_from_here i ws ns h)
