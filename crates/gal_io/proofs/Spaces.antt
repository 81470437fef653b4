-- The spaces of a line, and the words between them.
use Rattle.std.proofs.Common.{◌≡◌, ℕ, suc, ◌+◌, ◌<◌, Bool, true, false, not, ◌||◌, cond, ltb, eqb, List, [], ◌∷◌, ◌++◌, length, take, drop, get_or, refl, sym, ap, ◌∙◌, arith}
use Rattle.std.specs.List.{list_any, list_all, position_or_len, before_first, after_first}
use Rattle.std.specs.Str.{all_ascii_digits}
use Rattle.std.proofs.lemmas.Bool.{and_parts, eqb-true, ltb-true}
use Rattle.std.proofs.lemmas.Bool.Decides.{nat_tests}
use Rattle.std.proofs.lemmas.List.Sums.{passes_at_first, split_at_first}
use Rattle.gal_io.specs.Lines.{is_space}
use Rattle.lemmas.proofs.Lists.{drop_front, take_front}

-- a line has a space exactly where the first one stands before its end
pub any_space : (line : List ℕ) → list_any is_space line ≡ ltb (position_or_len is_space line) (length line)
any_space [] = refl
any_space (byte ∷ bytes) =
    let rest = any_space bytes in
    elim (eqb byte 32) as (λ b. (b || list_any is_space bytes) ≡ ltb (cond (not b) (1 + position_or_len is_space bytes) 0) (suc (length bytes))) [
      | true ↦ grind (arith, nat_tests)
      | false ↦ grind (arith, nat_tests, rest)
    ]

-- a line with a space is what stands before the first one, the space, and what stands behind it
pub parted : (line : List ℕ) → list_any is_space line ≡ true → line ≡ before_first is_space line ++ (32 ∷ after_first is_space line)
parted line h =
    let inside : position_or_len is_space line < length line = ltb-true (position_or_len is_space line) (length line) (sym (any_space line) ∙ h) in
    let space : get_or line (position_or_len is_space line) 0 ≡ 32 = eqb-true (get_or line (position_or_len is_space line) 0) 32 (passes_at_first is_space line 0 inside) in
    split_at_first is_space line 0 inside ∙ ap (λ b. before_first is_space line ++ (b ∷ after_first is_space line)) space

-- no byte is a space
abbrev pub unspaced : ℕ → Bool
unspaced byte = not (eqb byte 32)

pub digits_unspaced : (ds : List ℕ) → all_ascii_digits ds ≡ true → list_all unspaced ds ≡ true
digits_unspaced [] h = refl
digits_unspaced (d ∷ ds) h = let rest = digits_unspaced ds in grind (arith, nat_tests, rest, h)

pub space_there : (front back : List ℕ) → list_any is_space (front ++ (32 ∷ back)) ≡ true
space_there [] back = refl
space_there (byte ∷ front) back = let rest = space_there front back in
    elim (eqb byte 32) as (λ b. (b || list_any is_space (front ++ (32 ∷ back))) ≡ true) [ true ↦ refl | false ↦ rest ]

-- nothing, or a space and more
abbrev pub is_cut : List ℕ → Bool
is_cut [] = true
is_cut (b ∷ bs) = eqb b 32

pub space_place : (front rest : List ℕ) → list_all unspaced front ≡ true → is_cut rest ≡ true → position_or_len is_space (front ++ rest) ≡ length front
space_place [] [] h cut = refl
space_place [] (b ∷ rest) h cut = rw cut refl
space_place (byte ∷ front) rest h cut =
    let parts = and_parts (unspaced byte) (list_all unspaced front) h in
    let later = space_place front rest parts.1 cut in
    rw parts.0 (omega arith)

pub before_space : (front back : List ℕ) → list_all unspaced front ≡ true → before_first is_space (front ++ (32 ∷ back)) ≡ front
before_space front back h = ap (λ n. take n (front ++ (32 ∷ back))) (space_place front (32 ∷ back) h refl) ∙ take_front front (32 ∷ back)

pub after_space : (front back : List ℕ) → list_all unspaced front ≡ true → after_first is_space (front ++ (32 ∷ back)) ≡ back
after_space front back h =
    let place : position_or_len is_space (front ++ (32 ∷ back)) + 1 ≡ suc (length front) = let at = space_place front (32 ∷ back) h refl in omega arith in
    ap (λ n. drop n (front ++ (32 ∷ back))) place ∙ drop_front front 32 back
