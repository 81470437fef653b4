-- Lists of numbers in which none stands twice.
use Rattle.std.proofs.Common.{◌≡◌, ℕ, zero, suc, Bool, true, false, not, ◌&&◌, ◌||◌, cond, List, [], ◌∷◌, ◌++◌, refl, sym, ap, ◌∙◌, subst, Some, true≢false}
use Rattle.std.specs.Prelude.{◌==◌, slice_get}
use Rattle.std.specs.List.{filter, remove}
use Rattle.std.proofs.lemmas.Bool.{cond-false, cond-true, eq-eqb, ne_eqb, or_parts}
use Rattle.lossy_link.specs.Link.{is_among}
use Rattle.lossy_replay.specs.Linked.{without}
use Rattle.std.proofs.lemmas.Option.{get_or_from_slice_get, slice_get_within}
use Rattle.lossy_link.proofs.Among.{among_at, among_filter, among_push}

pub among_there : (xs : List ℕ) (j n : ℕ) → slice_get xs j ≡ Some n → is_among xs n ≡ true
among_there xs j n is = among_at xs j n (slice_get_within xs j n is) (get_or_from_slice_get xs j n 0 is)

-- no number stands twice
abbrev pub AreApart : List ℕ → Type 0
AreApart [] = Unit {0}
AreApart (x ∷ xs) = (is_among xs x ≡ false) × AreApart xs

pub filter_apart : (p : ℕ → Bool) (xs : List ℕ) → AreApart xs → AreApart (filter p xs)
filter_apart p [] apart = tt
filter_apart p (x ∷ xs) apart =
    elim (p x) as (λ b. AreApart (cond b (x ∷ filter p xs) (filter p xs))) [
      | true ↦ (among_filter p xs x ∙ ap (λ b. b && p x) apart.0, filter_apart p xs apart.1)
      | false ↦ filter_apart p xs apart.1
    ]

others_stay : (xs : List ℕ) (n : ℕ) → is_among xs n ≡ false → filter (λ k. not (n == k)) xs ≡ xs
others_stay [] n fails = refl
others_stay (x ∷ xs) n fails =
    let parts = or_parts (x == n) (is_among xs n) fails in
    let other : (n == x) ≡ false = ne_eqb n x (λ same. true≢false (sym (eq-eqb x n (sym same)) ∙ parts.0)) in
    cond-true (not (n == x)) (x ∷ filter (λ k. not (n == k)) xs) (filter (λ k. not (n == k)) xs) (ap not other)
    ∙ ap (λ (ys : List ℕ). x ∷ ys) (others_stay xs n parts.1)

-- one of them is left out
pub removed : (xs : List ℕ) (j n : ℕ) → AreApart xs → slice_get xs j ≡ Some n → filter (λ k. not (n == k)) xs ≡ remove xs j
removed [] j n apart is = absurd cc
removed (x ∷ xs) zero n apart is =
    let same : x ≡ n = cc in
    cond-false (not (n == x)) (x ∷ filter (λ k. not (n == k)) xs) (filter (λ k. not (n == k)) xs) (ap not (eq-eqb n x (sym same)))
    ∙ others_stay xs n (subst (λ m. is_among xs m ≡ false) same apart.0)
removed (x ∷ xs) (suc j) n apart is =
    let there = among_there xs j n is in
    let other : (n == x) ≡ false = ne_eqb n x (λ same. true≢false (sym there ∙ ap (is_among xs) same ∙ apart.0)) in
    cond-true (not (n == x)) (x ∷ filter (λ k. not (n == k)) xs) (filter (λ k. not (n == k)) xs) (ap not other)
    ∙ ap (λ (ys : List ℕ). x ∷ ys) (removed xs j n apart.1 is)

-- one number more is left out
pub one_gone : (gone : List ℕ) (n : ℕ) (xs : List ℕ) → without (gone ++ n ∷ []) xs ≡ filter (λ k. not (n == k)) (without gone xs)
one_gone gone n [] = refl
one_gone gone n (x ∷ xs) =
    let rest = one_gone gone n xs in
    let all = without (gone ++ n ∷ []) xs in
    let some = without gone xs in
    let tested = elim (is_among gone x) as (λ b. cond (not (b || (n == x))) (x ∷ all) all ≡ filter (λ k. not (n == k)) (cond (not b) (x ∷ some) some)) [
      | true ↦ rest
      | false ↦ ap (λ (ys : List ℕ). cond (not (n == x)) (x ∷ ys) ys) rest
    ] in
    ap (λ b. cond (not b) (x ∷ all) all) (among_push gone n x) ∙ tested

-- so the number at a place goes
pub goes_at : (gone xs : List ℕ) (j n : ℕ) → AreApart xs → slice_get (without gone xs) j ≡ Some n
    → remove (without gone xs) j ≡ without (gone ++ n ∷ []) xs
goes_at gone xs j n apart is =
    sym (one_gone gone n xs ∙ removed (without gone xs) j n (filter_apart (λ k. not (is_among gone k)) xs apart) is)
