-- Lists of decided packets that rise: no packet stands there twice, and lists with the same members are the same.
use Rattle.std.proofs.Common.{◌≡◌, ◌<◌, ◌≤◌, ℕ, zero, suc, List, [], ◌∷◌, map, Option, Some, inl, inr, refl, sym, ◌∙◌, ap, subst, arith}
use Rattle.std.specs.Prelude.{⊤, slice_get}
use Rattle.std.proofs.lemmas.Bool.{eq-eqb, ne_eqb}
use Rattle.std.proofs.lemmas.Bool.Decides.{nat_tests}
use Rattle.std.proofs.lemmas.Option.{same_Some}
use Rattle.run_model.specs.declared.serial.Decided.{Decided}
use Rattle.run_model.specs.Members.{Member}
use Rattle.run_model.specs.Serialises.{times}
use Rattle.run_model.proofs.Members.{get_member}

-- x stands before y: by version, then by deciding event, then by number
pub record Before (x y : Decided) : Type 0 where
  pub version : x.version ≤ y.version
  pub event : y.version ≤ x.version → x.event ≤ y.event
  pub number : y.version ≤ x.version → y.event ≤ x.event → x.number < y.number

-- each entry stands before all behind it
abbrev pub Rising : List Decided → Type 0
Rising [] = ⊤
Rising (x ∷ xs) = ((y : Decided) → Member y xs → Before x y) × Rising xs

pub before_not_back : (x y : Decided) → Before x y → Before y x → ⊥
before_not_back x y a b =
    let v = b.version in
    let e = a.event b.version in
    let f = b.event a.version in
    let n = a.number b.version f in
    let m = b.number a.version e in
    omega arith

pub before_self : (x : Decided) → Before x x → ⊥
before_self x a = before_not_back x x a a

pub same_rising : (xs ys : List Decided) → Rising xs → Rising ys
    → ((e : Decided) → Member e xs → Member e ys) → ((e : Decided) → Member e ys → Member e xs) → xs ≡ ys
same_rising [] [] up vp f g = refl
same_rising [] (y ∷ ys) up vp f g = absurd (g y (inl refl))
same_rising (x ∷ xs) [] up vp f g = absurd (f x (inl refl))
same_rising (x ∷ xs) (y ∷ ys) up vp f g =
    let heads : y ≡ x = elim (f x (inl refl)) [
      | inl p ↦ p
      | inr late ↦ elim (g y (inl refl)) [
        | inl p ↦ sym p
        | inr later ↦ absurd (before_not_back x y (up.0 y later) (vp.0 x late))
      ]
    ] in
    let tails : xs ≡ ys = same_rising xs ys up.1 vp.1
    (λ e m. elim (f e (inr m)) [ inl p ↦ absurd (before_self e (subst (λ z. Before z e) (sym heads ∙ p) (up.0 e m))) | inr b ↦ b ])
    (λ e m. elim (g e (inr m)) [ inl p ↦ absurd (before_self e (subst (λ z. Before z e) (heads ∙ p) (vp.0 e m))) | inr b ↦ b ]) in
    cc

-- ---- places in a rising list

pub rising_places : (es : List Decided) (i j : ℕ) (x y : Decided) → Rising es → i < j → slice_get es i ≡ Some x
    → slice_get es j ≡ Some y → Before x y
rising_places [] i j x y up lt hi hj = cc
rising_places (z ∷ es) zero zero x y up lt hi hj = absurd (omega arith)
rising_places (z ∷ es) zero (suc j) x y up lt hi hj =
    subst (λ a. Before a y) (same_Some _ _ hi) (up.0 y (get_member es j y hj))
rising_places (z ∷ es) (suc i) zero x y up lt hi hj = absurd (omega arith)
rising_places (z ∷ es) (suc i) (suc j) x y up lt hi hj = rising_places es i j x y up.1 (omega arith) hi hj

-- ---- how often a number stands there

pub times_none : (p : ℕ) (es : List Decided) → ((e : Decided) → Member e es → e.number ≡ p → ⊥) → times p (map (λ (x : Decided). x.number) es) ≡ 0
times_none p [] h = refl
times_none p (x ∷ xs) h =
    let r = times_none p xs (λ e m. h e (inr m)) in
    let n = ne_eqb x.number p (h x (inl refl)) in
    grind (arith, nat_tests)

pub times_once : (p : ℕ) (o : Option Decided) (es : List Decided) (e : Decided) → Rising es
    → ((x : Decided) → Member x es → x.number ≡ p → o ≡ Some x) → e.number ≡ p → Member e es
    → times p (map (λ (x : Decided). x.number) es) ≡ 1
times_once p o [] e up one is m = absurd m
times_once p o (x ∷ xs) e up one is m =
    let same : (y : Decided) → Member y (x ∷ xs) → y.number ≡ p → e ≡ y = λ y n q. same_Some _ _ (sym (one e m is) ∙ one y n q) in
    elim m [
      | inl here ↦
          let none = times_none p xs (λ y n q. before_self y (subst (λ z. Before z y) (here ∙ same y (inr n) q) (up.0 y n))) in
          let head : x.number ≡ p = ap (λ z. z.number) here ∙ is in
          let test = eq-eqb x.number p head in
          grind (arith, nat_tests)
      | inr later ↦
          let rest = times_once p o xs e up.1 (λ y n. one y (inr n)) is later in
          let head : x.number ≡ p → ⊥ = λ q. before_self e (subst (λ z. Before z e) (sym (same x (inl refl) q)) (up.0 e later)) in
          let test = ne_eqb x.number p head in
          grind (arith, nat_tests)
    ]
