-- Lists of values, the numbers that they stand for, and which of them are there.
use Rattle.std.proofs.Common.{◌≡◌, ℕ, zero, suc, ◌==◌, true, List, [], ◌∷◌, length, get_or, Option, Some, None, refl, sym, subst, arith, slice_index, slice_set, replicate, true≢false, eqb-true, ⊎_elim}
use Rattle.std.specs.List.{list_any}
use Rattle.std.proofs.lemmas.Bool.{or_cases}
use Rattle.flat_ir.specs.declared.program.ValueId.{ValueId}
use Rattle.flatten.specs.Flatten.{nought, or_nought, value_at, kept, in_scope}

abbrev pub HasOption : (ℕ → ValueId → Type 0) → ℕ → Option ValueId → Type 0
HasOption P n None = Unit {0}
HasOption P n (Some v) = P n v

-- there is a place for each number, and this holds of the number and the value at its place, where one is there
abbrev pub AllHave : (ℕ → ValueId → Type 0) → List ℕ → List (Option ValueId) → Type 0
AllHave P [] [] = Unit {0}
AllHave P (n ∷ ns) (i ∷ is) = HasOption P n i × AllHave P ns is
AllHave _ _ _ = ⊥

-- the values that are there stand for these numbers
abbrev pub Meets : (ValueId → ℕ) → Option ValueId → ℕ → Type 0
Meets f i u = HasOption (λ u v. f v ≡ u) u i

abbrev pub Agree : (ValueId → ℕ) → List (Option ValueId) → List ℕ → Type 0
Agree f is us = AllHave (λ u v. f v ≡ u) us is

abbrev pub HasId : Option ValueId → Type 0
HasId None = ⊥
HasId (Some v) = Unit {0}

-- there is a value at this place, unless it lies past the end
abbrev pub IsThere : List (Option ValueId) → ℕ → Type 0
IsThere [] x = Unit {0}
IsThere (i ∷ is) zero = HasId i
IsThere (i ∷ is) (suc x) = IsThere is x

pub option_map : (P Q : ℕ → ValueId → Type 0) → ((n : ℕ) (v : ValueId) → P n v → Q n v) → (n : ℕ) (i : Option ValueId) → HasOption P n i → HasOption Q n i
option_map P Q go n None h = tt
option_map P Q go n (Some v) h = go n v h

pub all_map : (P Q : ℕ → ValueId → Type 0) → ((n : ℕ) (v : ValueId) → P n v → Q n v) → (ns : List ℕ) (is : List (Option ValueId)) → AllHave P ns is → AllHave Q ns is
all_map P Q go [] [] h = tt
all_map P Q go (n ∷ ns) (i ∷ is) h = (option_map P Q go n i h.0, all_map P Q go ns is h.1)
all_map _ _ go _ _ h = h

have_some : (P : ℕ → ValueId → Type 0) (n : ℕ) (i : Option ValueId) → HasId i → HasOption P n i → P n (or_nought i)
have_some P n None there h = absurd there
have_some P n (Some v) there h = h

-- past the end the number is 0 and the value the first constant
pub have_at : (P : ℕ → ValueId → Type 0) (ns : List ℕ) (is : List (Option ValueId)) (x : ℕ) → (slice_index ns x ≡ 0 → P 0 nought) → IsThere is x → AllHave P ns is → P (slice_index ns x) (value_at is x)
have_at P [] [] x past there h = past refl
have_at P (n ∷ ns) (i ∷ is) zero past there h = have_some P n i there h.0
have_at P (n ∷ ns) (i ∷ is) (suc x) past there h = have_at P ns is x past there h.1
have_at _ _ _ x past there h = absurd h

-- a new value at a place, for the same number and for another
pub have_set : (P : ℕ → ValueId → Type 0) (ns : List ℕ) (is : List (Option ValueId)) (x : ℕ) (v : ValueId) → AllHave P ns is → P (slice_index ns x) v → AllHave P ns (slice_set is x (Some v))
have_set P [] [] x v h new = tt
have_set P (n ∷ ns) (i ∷ is) zero v h new = (new, h.1)
have_set P (n ∷ ns) (i ∷ is) (suc x) v h new = (h.0, have_set P ns is x v h.1 new)
have_set _ _ _ x v h new = absurd h

pub agree_set : (f : ValueId → ℕ) (is : List (Option ValueId)) (us : List ℕ) (x : ℕ) (v : ValueId) (u : ℕ) → f v ≡ u → Agree f is us → Agree f (slice_set is x (Some v)) (slice_set us x u)
agree_set f [] [] x v u e a = tt
agree_set f (i ∷ is) (n ∷ us) zero v u e a = (e, a.1)
agree_set f (i ∷ is) (n ∷ us) (suc x) v u e a = (a.0, agree_set f is us x v u e a.1)
agree_set f _ _ x v u e a = absurd a

-- a value at a place stays there, and comes there
pub there_set : (is : List (Option ValueId)) (x y : ℕ) (v : ValueId) → IsThere is y → IsThere (slice_set is x (Some v)) y
there_set (i ∷ is) zero (suc y) v h = h
there_set (i ∷ is) (suc x) zero v h = h
there_set (i ∷ is) (suc x) (suc y) v h = there_set is x y v h
there_set _ _ _ v h = tt

pub there_new : (is : List (Option ValueId)) (x : ℕ) (v : ValueId) → IsThere (slice_set is x (Some v)) x
there_new (i ∷ is) (suc x) v = there_new is x v
there_new _ _ v = tt

-- ## What was in scope before

have_kept : (P : ℕ → ValueId → Type 0) (n : ℕ) (a b : Option ValueId) → HasOption P n b → HasOption P n (kept a b)
have_kept P n None b h = tt
have_kept P n (Some v) b h = h

-- the lists before and now are of the same length, since both have a place for each of the numbers ws
pub have_scope : (P R Q : ℕ → ValueId → Type 0) (ws ns : List ℕ) (before now : List (Option ValueId)) → AllHave P ws before → AllHave R ws now → AllHave Q ns now → AllHave Q ns (in_scope before now)
have_scope P R Q [] ns [] [] h h' a = a
have_scope P R Q (w ∷ ws) (n ∷ ns) (x ∷ before) (b ∷ now) h h' a = (have_kept Q n x b a.0, have_scope P R Q ws ns before now h.1 h'.1 a.1)
have_scope P R Q (w ∷ ws) [] (x ∷ before) (b ∷ now) h h' a = absurd a
have_scope P R Q [] ns (x ∷ before) now h h' a = absurd h
have_scope P R Q (w ∷ ws) ns [] now h h' a = absurd h
have_scope P R Q _ ns _ _ h h' a = absurd h'

has_kept : (a b : Option ValueId) → HasId a → HasId b → HasId (kept a b)
has_kept None b h h' = absurd h
has_kept (Some v) b h h' = h'

pub there_scope : (before now : List (Option ValueId)) (x : ℕ) → IsThere before x → IsThere now x → IsThere (in_scope before now) x
there_scope (a ∷ before) (b ∷ now) zero h h' = has_kept a b h h'
there_scope (a ∷ before) (b ∷ now) (suc x) h h' = there_scope before now x h h'
there_scope _ _ x h h' = tt

-- ## Scopes

-- each local of a scope is there
abbrev pub Knows : List ℕ → List (Option ValueId) → Type 0
Knows [] is = Unit {0}
Knows (x ∷ scope) is = IsThere is x × Knows scope is

pub known_at : (scope : List ℕ) (is : List (Option ValueId)) (x : ℕ) → Knows scope is → list_any (λ y. y == x) scope ≡ true → IsThere is x
known_at [] is x k h = absurd (true≢false (sym h))
known_at (y ∷ scope) is x k h =
    ⊎_elim (λ e. subst (IsThere is) (eqb-true y x e) k.0) (λ e. known_at scope is x k.1 e) (or_cases (y == x) (list_any (λ y. y == x) scope) h)

pub knows_later : (scope : List ℕ) (is js : List (Option ValueId)) → ((x : ℕ) → IsThere is x → IsThere js x) → Knows scope is → Knows scope js
knows_later [] is js go k = tt
knows_later (x ∷ scope) is js go k = (go x k.0, knows_later scope is js go k.1)

-- ## At first

pub have_none : (P : ℕ → ValueId → Type 0) (ns : List ℕ) (count : ℕ) → length ns ≡ count → AllHave P ns (replicate count None)
have_none P [] zero e = tt
have_none P (n ∷ ns) (suc count) e = (tt, have_none P ns count (omega (arith, e)))
have_none P _ _ e = absurd (omega (arith, e))

-- ## Lists one longer

pub there_cons : (i i' j : Option ValueId) (is is' js : List (Option ValueId)) → (HasId i → HasId i' → HasId j) → ((x : ℕ) → IsThere is x → IsThere is' x → IsThere js x) → (x : ℕ) → IsThere (i ∷ is) x → IsThere (i' ∷ is') x → IsThere (j ∷ js) x
there_cons i i' j is is' js here rest zero = here
there_cons i i' j is is' js here rest (suc x) = rest x

pub alike_cons : (i i' j : Option ValueId) (is is' js : List (Option ValueId)) → (i ≡ i' → j ≡ i) → ((x : ℕ) → get_or is x None ≡ get_or is' x None → get_or js x None ≡ get_or is x None)
    → (x : ℕ) → get_or (i ∷ is) x None ≡ get_or (i' ∷ is') x None → get_or (j ∷ js) x None ≡ get_or (i ∷ is) x None
alike_cons i i' j is is' js here rest zero = here
alike_cons i i' j is is' js here rest (suc x) = rest x
