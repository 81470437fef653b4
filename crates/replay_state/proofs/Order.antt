-- Rising lists of entries: insertion, splitting.
use Rattle.std.proofs.Common.{◌≡◌, ℕ, ◌<◌, ◌≤◌, Bool, true, false, cond, List, [], ◌∷◌, ◌++◌, ◌⊎◌, inl, inr, refl, sym, ◌∙◌, ap, subst, arith}
use Rattle.std.specs.Prelude.{filter}
use Rattle.std.proofs.lemmas.Bool.{cases_lt}
use Rattle.std.proofs.lemmas.Bool.Decides.{nat_tests}
use Rattle.run_model.specs.declared.serial.Decided.{Decided}
use Rattle.run_model.specs.Members.{Member}
use Rattle.run_model.proofs.RisingEntries.{Before, Rising}
use Rattle.replay_state.proofs.Words.{upto, beyond}

pub member_left : {X : Type 0} (x : X) (l r : List X) → Member x l → Member x (l ++ r)
member_left x [] r h = absurd h
member_left x (y ∷ l) r (inl e) = inl e
member_left x (y ∷ l) r (inr h) = inr (member_left x l r h)

pub member_right : {X : Type 0} (x : X) (l r : List X) → Member x r → Member x (l ++ r)
member_right x [] r h = h
member_right x (y ∷ l) r h = inr (member_right x l r h)

-- in a list with e put in the middle
pub member_mid : {X : Type 0} (x e : X) (l r : List X) → Member x (l ++ e ∷ r) → (e ≡ x) ⊎ Member x (l ++ r)
member_mid x e [] r h = h
member_mid x e (y ∷ l) r (inl p) = inr (inl p)
member_mid x e (y ∷ l) r (inr h) = elim (member_mid x e l r h) [ inl a ↦ inl a | inr b ↦ inr (inr b) ]

pub member_mid_is : {X : Type 0} (x e : X) (l r : List X) → e ≡ x → Member x (l ++ e ∷ r)
member_mid_is x e l r p = member_right x l (e ∷ r) (inl p)

pub member_mid_old : {X : Type 0} (x e : X) (l r : List X) → Member x (l ++ r) → Member x (l ++ e ∷ r)
member_mid_old x e [] r h = inr h
member_mid_old x e (y ∷ l) r (inl p) = inl p
member_mid_old x e (y ∷ l) r (inr h) = inr (member_mid_old x e l r h)

-- e may be put where all before stand before it and all behind stand behind it
pub rising_mid : (e : Decided) (l r : List Decided) → Rising (l ++ r)
    → ((x : Decided) → Member x l → Before x e) → ((y : Decided) → Member y r → Before e y) → Rising (l ++ e ∷ r)
rising_mid e [] r up below above = (above, up)
rising_mid e (x ∷ l) r up below above = (
  (λ y m. elim (member_mid y e l r m) [ inl p ↦ subst (λ z. Before x z) p (below x (inl refl)) | inr b ↦ up.0 y b ]),
  rising_mid e l r up.1 (λ z m. below z (inr m)) above,
)

pub member_cond : {X : Type 0} (x y : X) (b : Bool) (ms ns : List X) → ((m : Member x ms) → Member x ns) → Member x (cond b (y ∷ ms) ms) → ((b ≡ true) × (y ≡ x)) ⊎ Member x ms
member_cond x y true ms ns f (inl q) = inl (refl, q)
member_cond x y true ms ns f (inr m) = inr m
member_cond x y false ms ns f m = inr m

pub member_filter : {X : Type 0} (p : X → Bool) (x : X) (xs : List X) → Member x (filter p xs) → Member x xs × (p x ≡ true)
member_filter p x [] h = absurd h
member_filter p x (y ∷ ys) h =
    let rest : Member x (filter p ys) → Member x ys × (p x ≡ true) = member_filter p x ys in
    elim (member_cond x y (p y) (filter p ys) ys (λ m. (rest m).0) h) [
      | inl here ↦ (inl here.1, sym (ap p here.1) ∙ here.0)
      | inr m ↦ (inr (rest m).0, (rest m).1)
    ]

pub upto_none : (v : ℕ) (es : List Decided) → ((x : Decided) → Member x es → v < x.version) → upto v es ≡ []
upto_none v [] h = refl
upto_none v (x ∷ xs) h = let here = h x (inl refl) in let rest = upto_none v xs (λ y m. h y (inr m)) in grind (arith, nat_tests)

pub upto_all : (v : ℕ) (es : List Decided) → ((x : Decided) → Member x es → x.version ≤ v) → upto v es ≡ es
upto_all v [] h = refl
upto_all v (x ∷ xs) h = let here = h x (inl refl) in let rest = upto_all v xs (λ y m. h y (inr m)) in grind (arith, nat_tests)

pub beyond_all : (v : ℕ) (es : List Decided) → ((x : Decided) → Member x es → v < x.version) → beyond v es ≡ es
beyond_all v [] h = refl
beyond_all v (x ∷ xs) h = let here = h x (inl refl) in let rest = beyond_all v xs (λ y m. h y (inr m)) in grind (arith, nat_tests)

-- a rising list is its entries up to a version, and then the later ones
pub rising_split : (v : ℕ) (es : List Decided) → Rising es → es ≡ upto v es ++ beyond v es
rising_split v [] up = refl
rising_split v (x ∷ xs) up = elim (cases_lt v x.version) [
  | inl late ↦
      let all : (y : Decided) → Member y (x ∷ xs) → v < y.version = λ y m. elim m [
        | inl p ↦ subst (λ z. v < z.version) p late
        | inr b ↦ let o = (up.0 y b).version in omega arith
      ] in
      let a = upto_none v (x ∷ xs) all in
      let b = beyond_all v (x ∷ xs) all in
      rw (a, b) refl
  | inr early ↦ let rest = rising_split v xs up.1 in grind (arith, nat_tests)
]
