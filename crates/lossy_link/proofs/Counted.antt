-- How many numbers are known.
use Rattle.std.proofs.Common.{◌≡◌, ◌+◌, ◌-◌, ℕ, zero, suc, Bool, true, false, not, cond, List, [], ◌∷◌, length, refl, ap, ◌∙◌, arith}
use Rattle.std.specs.FinSet as set
use Rattle.std.specs.Cmp.{nat_cmp_total}
use Rattle.std.specs.List.{filter, range_with_len}
use Rattle.std.specs.Ordering.{nat_cmp}
use Rattle.std.proofs.lemmas.Bool.{cond-false}
use Rattle.lossy_link.specs.Link.{is_among}
use Rattle.lossy_link.specs.Unknown.{AreRising, known_beside, sender_with}
use Rattle.lossy_link.proofs.KnownNumbers.{moved, rising_apart, rising_filter, rising_lower}
use Rattle.std.proofs.lemmas.List.FromFn.{length-range_with_len}
use Rattle.std.proofs.lemmas.List.Filters.{length-filter_both}

-- what a test keeps of a range rises
pub kept_rises : (p : ℕ → Bool) (a n : ℕ) → AreRising a (a + n) (filter p (range_with_len a n))
kept_rises p a zero = tt
kept_rises p a (suc n) =
    let rest = moved (a + 1) ((a + 1) + n) (a + suc n) (filter p (range_with_len (a + 1) n)) (omega arith) (kept_rises p (a + 1) n) in
    elim (p a) as (λ b. AreRising a (a + suc n) (cond b (a ∷ filter p (range_with_len (a + 1) n)) (filter p (range_with_len (a + 1) n)))) [
      | true ↦ (omega arith, omega arith, rising_lower (a + 1) (suc a) (a + suc n) (filter p (range_with_len (a + 1) n)) (omega arith) rest)
      | false ↦ rising_lower (a + 1) a (a + suc n) (filter p (range_with_len (a + 1) n)) (omega arith) rest
    ]

-- a set of rising numbers has as many
rising_len : (a b : ℕ) (xs : List ℕ) → AreRising a b xs → set.len (set.from_list {R = nat_cmp} xs) ≡ length xs
rising_len a b [] up = set.len-empty nat_cmp
rising_len a b (x ∷ xs) up =
    let s = set.from_list {R = nat_cmp} xs in
    let new : set.contains s x ≡ false = set.contains-from_list_nat xs x ∙ rising_apart (suc x) b xs x up.2 (omega arith) in
    let rest = rising_len (suc x) b xs up.2 in
    omega (arith, set.len-insert nat_cmp_total s x ∙ cond-false (set.contains s x) (set.len s) (set.len s + 1) new, rest)

pub known_count : (items : List (List ℕ)) (xs : List ℕ) → AreRising 0 (length items) xs
    → length items - length xs ≡ set.len (sender_with items xs).known
known_count items xs up =
    let count = length items in
    let p : ℕ → Bool = λ k. is_among xs k in
    let others = filter (λ k. not (p k)) (range_with_len 0 count) in
    let kept : filter p (range_with_len 0 count) ≡ xs = rising_filter 0 count xs (moved 0 count (0 + count) xs (omega arith) up) in
    let halves = length-filter_both p (λ k. not (p k)) (λ _. refl) (range_with_len 0 count) in
    let long : length (filter p (range_with_len 0 count)) ≡ length xs = ap (λ (l : List ℕ). length l) kept in
    let size : set.len (known_beside count xs) ≡ length others = rising_len 0 (0 + count) others (kept_rises (λ k. not (p k)) 0 count) in
    omega (arith, halves, long, size, length-range_with_len 0 count)
