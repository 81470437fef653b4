-- The serial order of fates is the one rising list of the decided packets.
use Rattle.std.proofs.Common.{◌≡◌, ℕ, ◌+◌, ◌≤◌, true, false, List, [], ◌∷◌, Option, Some, None, ◌⊎◌, inl, inr, refl, sym, ap, subst, arith, zero, suc}
use Rattle.std.specs.Prelude.{⊤, slice_get}
use Rattle.std.proofs.lemmas.Bool.{cases_Bool, cases_lt}
use Rattle.std.proofs.lemmas.Bool.Decides.{nat_tests}
use Rattle.std.proofs.lemmas.Option.{same_Some}
use Rattle.run_model.specs.declared.fate.Fate.{Fate}
use Rattle.run_model.specs.declared.fate.Fate.TheVariants.{Pass, Up}
use Rattle.run_model.specs.declared.serial.Decided.{Decided}
use Rattle.run_model.specs.Members.{Member}
use Rattle.run_model.specs.Order.{stands_before, put_in, sorted, with_decided, decided_of, decided_from}
use Rattle.run_model.proofs.RisingEntries.{Before, Rising, same_rising}

-- x stands before y, where their numbers differ
pub record AtOrBefore (x y : Decided) : Type 0 where
  pub version : x.version ≤ y.version
  pub event : y.version ≤ x.version → x.event ≤ y.event
  pub number : y.version ≤ x.version → y.event ≤ x.event → x.number ≤ y.number

pub strictly : (x y : Decided) → AtOrBefore x y → (x.number ≡ y.number → ⊥) → Before x y
strictly x y a apart = record {
  version = a.version;
  event = a.event;
  number = λ h k. elim (cases_lt x.number y.number) [ inl less ↦ less | inr more ↦ absurd (apart (let n = a.number h k in omega arith)) ];
}

weaker : (x y : Decided) → Before x y → AtOrBefore x y
weaker x y b = record { version = b.version; event = b.event; number = λ h k. let n = b.number h k in omega arith }

before_if : (x y : Decided) → stands_before x y ≡ true → AtOrBefore x y
before_if x y h = record {
  version = grind (arith, nat_tests);
  event = grind (arith, nat_tests);
  number = grind (arith, nat_tests);
}

after_if_not : (x y : Decided) → stands_before x y ≡ false → AtOrBefore y x
after_if_not x y h = record {
  version = grind (arith, nat_tests);
  event = grind (arith, nat_tests);
  number = grind (arith, nat_tests);
}

pub through : (x y z : Decided) → AtOrBefore x y → AtOrBefore y z → AtOrBefore x z
through x y z a b = record {
  version = let v = a.version in let w = b.version in omega arith;
  event = λ h. let v = a.version in let w = b.version in let e = a.event (omega arith) in let f = b.event (omega arith) in omega arith;
  number = λ h k. let v = a.version in let w = b.version in
      let e = a.event (omega arith) in let f = b.event (omega arith) in
      let m = a.number (omega arith) (omega arith) in let n = b.number (omega arith) (omega arith) in omega arith;
}

member_put_in : (x e : Decided) (xs : List Decided) → Member x (put_in e xs) → (e ≡ x) ⊎ Member x xs
member_put_in x e [] h = h
member_put_in x e (y ∷ ys) h =
    let rest = member_put_in x e ys in
    elim (cases_Bool (stands_before e y)) [
      | inl t ↦ (rw t at h)
      | inr t ↦ elim (rw t at h) [ inl p ↦ inr (inl p) | inr m ↦ elim (rest m) [ inl q ↦ inl q | inr b ↦ inr (inr b) ] ]
    ]

put_in_member : (x e : Decided) (xs : List Decided) → (e ≡ x) ⊎ Member x xs → Member x (put_in e xs)
put_in_member x e [] h = h
put_in_member x e (y ∷ ys) h =
    let rest = put_in_member x e ys in
    elim (cases_Bool (stands_before e y)) [
      | inl t ↦ rw t h
      | inr t ↦ rw t (elim h [ inl p ↦ inr (rest (inl p)) | inr m ↦ elim m [ inl q ↦ inl q | inr b ↦ inr (rest (inr b)) ] ])
    ]

rising_put_in : (e : Decided) (xs : List Decided) → Rising xs → ((y : Decided) → Member y xs → y.number ≡ e.number → ⊥) → Rising (put_in e xs)
rising_put_in e [] up apart = ((λ y m. absurd m), up)
rising_put_in e (x ∷ xs) up apart =
    let rest = rising_put_in e xs up.1 (λ y m. apart y (inr m)) in
    elim (cases_Bool (stands_before e x)) [
      | inl t ↦ rw t (
        (λ y m. strictly e y (elim m [
          | inl p ↦ subst (λ z. AtOrBefore e z) p (before_if e x t)
          | inr b ↦ through e x y (before_if e x t) (weaker x y (up.0 y b))
        ]) (λ q. apart y m (sym q))),
        up,
      )
      | inr t ↦ rw t (
        (λ y m. elim (member_put_in y e xs m) [
          | inl p ↦ subst (λ z. Before x z) p (strictly x e (after_if_not e x t) (apart x (inl refl)))
          | inr b ↦ up.0 y b
        ]),
        rest,
      )
    ]

pub member_sorted : (x : Decided) (es : List Decided) → Member x (sorted es) → Member x es
member_sorted x [] h = h
member_sorted x (e ∷ es) h = elim (member_put_in x e (sorted es) h) [ inl p ↦ inl p | inr m ↦ inr (member_sorted x es m) ]

pub sorted_member : (x : Decided) (es : List Decided) → Member x es → Member x (sorted es)
sorted_member x [] h = h
sorted_member x (e ∷ es) (inl p) = put_in_member x e (sorted es) (inl p)
sorted_member x (e ∷ es) (inr m) = put_in_member x e (sorted es) (inr (sorted_member x es m))

-- the numbers of a list are apart
abbrev pub Apart : List Decided → Type 0
Apart [] = ⊤
Apart (x ∷ xs) = ((y : Decided) → Member y xs → y.number ≡ x.number → ⊥) × Apart xs

rising_sorted : (es : List Decided) → Apart es → Rising (sorted es)
rising_sorted [] h = h
rising_sorted (e ∷ es) h = rising_put_in e (sorted es) (rising_sorted es h.1) (λ y m. h.0 y (member_sorted y es m))

-- where the packet of a number stands, if it is decided
abbrev pub entry_of : ℕ → Option Fate → Option Decided
entry_of n None = None
entry_of n (Some f) = decided_of n f

pub decided_number : (n : ℕ) (f : Fate) (e : Decided) → decided_of n f ≡ Some e → e.number ≡ n
decided_number n (Pass a) e h = cc
decided_number n (Up a) e h = cc
decided_number n _ e h = sym (ap (λ x. x.number) (same_Some _ _ h))

member_with : (x : Decided) (o : Option Decided) (es : List Decided) → Member x (with_decided o es) → (o ≡ Some x) ⊎ Member x es
member_with x None es h = inr h
member_with x (Some e) es (inl p) = inl (ap Some p)
member_with x (Some e) es (inr m) = inr m

with_member : (x : Decided) (o : Option Decided) (es : List Decided) → (o ≡ Some x) ⊎ Member x es → Member x (with_decided o es)
with_member x None es (inl p) = cc
with_member x None es (inr m) = m
with_member x (Some e) es (inl p) = inl (same_Some _ _ p)
with_member x (Some e) es (inr m) = inr m

-- each entry that is made from the fates is at its number
entries_sound : (n : ℕ) (fs : List Fate) (e : Decided) → Member e (decided_from n fs) → (k : ℕ) × (e.number ≡ n + k) × (entry_of e.number (slice_get fs k) ≡ Some e)
entries_sound n [] e h = absurd h
entries_sound n (f ∷ fs) e h = elim (member_with e (entry_of n (Some f)) (decided_from (suc n) fs) h) [
  | inl p ↦ let m = decided_number n f e p in (0, omega arith, subst (λ z. entry_of z (Some f) ≡ Some e) (sym m) p)
  | inr b ↦ let r = entries_sound (suc n) fs e b in (suc (r.0), omega arith, r.2)
]

entries_complete : (n : ℕ) (fs : List Fate) (k : ℕ) (e : Decided) → entry_of (n + k) (slice_get fs k) ≡ Some e → Member e (decided_from n fs)
entries_complete n [] k e h = cc
entries_complete n (f ∷ fs) zero e h = with_member e (entry_of n (Some f)) (decided_from (suc n) fs) (inl (subst (λ z. entry_of z (Some f) ≡ Some e) (omega arith) h))
entries_complete n (f ∷ fs) (suc k) e h =
    with_member e (entry_of n (Some f)) (decided_from (suc n) fs)
    (inr (entries_complete (suc n) fs k e (subst (λ z. entry_of z (slice_get fs k) ≡ Some e) (omega arith) h)))

with_apart : (o : Option Decided) (es : List Decided) → Apart es → ((e y : Decided) → o ≡ Some e → Member y es → y.number ≡ e.number → ⊥) → Apart (with_decided o es)
with_apart None es h apart = h
with_apart (Some e) es h apart = ((λ y m. apart e y refl m), h)

pub entries_apart : (n : ℕ) (fs : List Fate) → Apart (decided_from n fs)
entries_apart n [] = tt
entries_apart n (f ∷ fs) = with_apart (entry_of n (Some f)) (decided_from (suc n) fs) (entries_apart (suc n) fs)
    (λ e y p m. let low = decided_number n f e p in let high = entries_sound (suc n) fs y m in λ q. omega arith)

-- a list is the order of these fates
pub record IsOrder (fates : List Fate) (es : List Decided) : Type 0 where
  pub rising : Rising es
  pub sound : (e : Decided) → Member e es → entry_of e.number (slice_get fates e.number) ≡ Some e
  pub complete : (e : Decided) → entry_of e.number (slice_get fates e.number) ≡ Some e → Member e es

pub is_order : (fates : List Fate) → IsOrder fates (sorted (decided_from 0 fates))
is_order fates = record {
  rising = rising_sorted (decided_from 0 fates) (entries_apart 0 fates);
  sound = λ e m. let r = entries_sound 0 fates e (member_sorted e (decided_from 0 fates) m) in
      let same : r.0 ≡ e.number = omega arith in subst (λ z. entry_of e.number (slice_get fates z) ≡ Some e) same r.2;
  complete = λ e h. sorted_member e (decided_from 0 fates) (entries_complete 0 fates e.number e (subst (λ z. entry_of z (slice_get fates e.number) ≡ Some e) (omega arith) h));
}

pub order_unique : (fates : List Fate) (es : List Decided) → IsOrder fates es → es ≡ sorted (decided_from 0 fates)
order_unique fates es h = let g = is_order fates in
    same_rising es (sorted (decided_from 0 fates)) h.rising g.rising (λ e m. g.complete e (h.sound e m)) (λ e m. h.complete e (g.sound e m))
