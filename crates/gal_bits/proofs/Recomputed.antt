-- The updated checksum is the one that computing it anew gives.
use Rattle.std.proofs.Common.{◌≡◌, ℕ, zero, suc, ◌+◌, ◌%◌, ◌<◌, ◌≤◌, List, [], ◌∷◌, ◌++◌, length, refl, sym, ap, ◌∙◌, subst, arith, add-zero, zero-add, add_assoc}
use Rattle.std.specs.Prelude.{fold, slice_index_or}
use Rattle.std.proofs.lemmas.List.Elements.{All-append, All-cons}
use Rattle.gal_bits.specs.Checksum.{adjusted, carried_sum, complement, AreWords, IsRecomputed}

-- s is the one's complement sum of words whose plain sum is n
record Carries (n s : ℕ) : Type 0 where
  pub fits : s < 65536
  pub congruent : s % 65535 ≡ n % 65535
  pub some : 0 < n → 0 < s

-- one word is its own sum
start : (s : ℕ) → s < 65536 → Carries s s
start s fits = record { fits = fits; congruent = refl; some = λ p. p }

-- one more word
carries_one : (n s x : ℕ) → Carries n s → x < 65536 → Carries (n + x) (carried_sum s x)
carries_one n s x h fits = record {
  fits = omega (arith, h.fits, fits);
  congruent = omega (arith, h.fits, fits, h.congruent);
  some = λ p. grind (arith, h.some, h.fits, fits, p);
}

-- the plain sum
abbrev total : List ℕ → ℕ
total [] = 0
total (x ∷ xs) = x + total xs

-- more words, one after another
carries_all : (words : List ℕ) (n s : ℕ) → AreWords words → Carries n s → Carries (n + total words) (fold carried_sum s words)
carries_all [] n s fit h = subst (λ m. Carries m s) (sym (add-zero n)) h
carries_all (x ∷ xs) n s fit h =
    let first : x < 65536 = fit 0 0 (omega arith) in
    let rest : AreWords xs = λ k d within. fit (suc k) d (omega (arith, within)) in
    subst (λ m. Carries m (fold carried_sum (carried_sum s x) xs)) (add_assoc n x (total xs))
    (carries_all xs (n + x) (carried_sum s x) rest (carries_one n s x h first))

total-append : (xs ys : List ℕ) → total (xs ++ ys) ≡ total xs + total ys
total-append [] ys = omega arith
total-append (x ∷ xs) ys = omega (arith, total-append xs ys)

-- an element is at most the sum
total_from : (xs : List ℕ) (k x : ℕ) → k < length xs → slice_index_or xs k x ≡ x → x ≤ total xs
total_from [] k x within here = omega (arith, within)
total_from (y ∷ ys) zero x within here = omega (arith, here)
total_from (y ∷ ys) (suc k) x within here = omega (arith, total_from ys k x (omega (arith, within)) here)

-- two sums are equal where the plain ones are congruent and neither is 0
carries_same : (n m s t : ℕ) → Carries n s → Carries m t → n % 65535 ≡ m % 65535 → 0 < n → 0 < m → s ≡ t
carries_same n m s t h k same first second = omega (arith, h.fits, h.congruent, h.some first, k.fits, k.congruent, k.some second, same)

-- the words with one in the middle
among : (before after : List ℕ) (x : ℕ) → AreWords before → AreWords after → x < 65536 → AreWords (before ++ x ∷ after)
among before after x front back fits = All-append (λ word. word < 65536) before (x ∷ after) front (All-cons (λ word. word < 65536) x after fits back)

-- words from the first on
carries_words : (words : List ℕ) → AreWords words → Carries (total words) (fold carried_sum 0 words)
carries_words words fit =
    subst (λ m. Carries m (fold carried_sum 0 words)) (zero-add (total words)) (carries_all words 0 0 fit (start 0 (omega arith)))

total-among : (before after : List ℕ) (x : ℕ) → total (before ++ x ∷ after) ≡ total before + total after + x
total-among before after x = omega (arith, total-append before (x ∷ after))

-- the update, where rest is the plain sum of all words but the one that changes
updated : (rest sum old new s t : ℕ) → old < 65536 → new < 65536 → sum ≡ complement s → Carries (rest + old) s → Carries (rest + new) t → 0 < rest + new → adjusted sum old new ≡ complement t
unfolding adjusted
updated rest sum old new s t old_fits new_fits is was now some =
    let turned : complement sum ≡ s = omega (arith, is, was.fits) in
    let step : _ = carries_one _ _ new (carries_one s s (complement old) (start s was.fits) (omega arith)) new_fits in
    let same : (s + complement old + new) % 65535 ≡ (rest + new) % 65535 = omega (arith, was.fits, was.congruent, old_fits) in
    let more : 0 < s + complement old + new = grind (arith, was.some, old_fits, some) in
    ap (λ n. complement (carried_sum (carried_sum n (complement old)) new)) turned
    ∙ ap complement (carries_same _ _ _ _ step now same more some)

-- the whole law, for words in any place
pub recomputed : (sum old new : ℕ) → old < 65536 → new < 65536 → IsRecomputed sum old new (adjusted sum old new)
recomputed sum old new old_fits new_fits before after front back any is =
    let rest : ℕ = total before + total after in
    let was : Carries (rest + old) _ = subst (λ n. Carries n (fold carried_sum 0 (before ++ old ∷ after))) (total-among before after old) (carries_words (before ++ old ∷ after) (among before after old front back old_fits)) in
    let now : Carries (rest + new) _ = subst (λ n. Carries n (fold carried_sum 0 (before ++ new ∷ after))) (total-among before after new) (carries_words (before ++ new ∷ after) (among before after new front back new_fits)) in
    let some : 0 < rest + new = omega (arith, total_from (before ++ new ∷ after) any.0 any.1 any.2 any.3, any.4, total-among before after new) in
    updated rest sum old new _ _ old_fits new_fits is was now some
