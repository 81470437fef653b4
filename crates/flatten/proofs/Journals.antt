-- What is taken back, on plain lists.
use Rattle.std.proofs.Common.{◌≡◌, ℕ, zero, suc, ◌+◌, ◌<◌, ◌≤◌, true, List, [], ◌∷◌, ◌++◌, length, map, get_or, slice_set, slice_index, Option, Some, None, refl, sym, ap, ◌∙◌, subst, arith, cond}
use Rattle.std.specs.List.{Contains, dedup}
use Rattle.std.specs.List.Retain.{IsFiltered, DiffersFromLast}
use Rattle.std.specs.List.Sorted.{IsSorted, IsPermutation, IsStrictlyIncreasing}
use Rattle.std.specs.Ordering.{nat_cmp}
use Rattle.std.proofs.Math.Dec.{eqb}
use Rattle.std.proofs.lemmas.List.{set-set, set-get_or, length-set, get_or-set_other, ext_get_or}
use Rattle.std.proofs.lemmas.List.Elements.{Contains-append_left, Contains-append_right}
use Rattle.std.proofs.lemmas.List.Filters.{dedup_is}
use Rattle.std.proofs.lemmas.List.Kept.{Contains-dedup_nat}
use Rattle.std.proofs.lemmas.List.Sorted.{Contains-permutation}
use Rattle.std.proofs.lemmas.Map.Keys.{IsStrictlyIncreasing-dedup}
use Rattle.flat_ir.specs.declared.program.ValueId.{ValueId}
use Rattle.flat_ir.specs.Program as flat
use Rattle.flatten.specs.declared.entry.Entry.{Entry}
use Rattle.flatten.specs.declared.entry.Change.{Change}
use Rattle.flatten.specs.declared.place.Place.{Place}
use Rattle.flatten.specs.Flatten.{Emitted, View, At, join, same_id, give, merge_option, merge_ids, kept, in_scope, leave}
use Rattle.flatten.specs.Journal.{Past, before, undone, with_locals, entry_locals, value_or_none, change_at, second_at, with_first, IsOther, AreRising, AreOn, AreSides, AreAssigned, merge_each, merge_rest, leave_each}
use Rattle.flatten.specs.Pending.{placed, scoped, merged, valued}
use Rattle.flatten.proofs.Written.{same_itself}

abbrev Ids : Type 0
Ids = List (Option ValueId)

-- ## Taking back

abbrev pub entry : ℕ → Option ValueId → Entry
entry x id = record { local = x; before = id }

pub undone_last : (es : List Entry) (e : Entry) (xs : Ids) → undone (es ++ e ∷ []) xs ≡ undone es (slice_set xs e.local e.before)
undone_last [] e xs = refl
undone_last (f ∷ es) e xs = ap (λ l. slice_set l f.local f.before) (undone_last es e xs)

pub length_undone : (es : List Entry) (xs : Ids) → length (undone es xs) ≡ length xs
length_undone [] xs = refl
length_undone (e ∷ es) xs = length-set (undone es xs) e.local e.before ∙ length_undone es xs

-- one more assignment is taken back
pub undone_set : (es : List Entry) (xs : Ids) (x : ℕ) (id : Option ValueId) → undone (es ++ entry x (value_or_none xs x) ∷ []) (slice_set xs x id) ≡ undone es xs
undone_set es xs x id =
    undone_last es (entry x (value_or_none xs x)) (slice_set xs x id) ∙ ap (undone es) (set-set xs x id (value_or_none xs x) ∙ set-get_or xs x None)

-- a local is given the value that it has
pub set_same : (xs : Ids) (x : ℕ) (id : Option ValueId) → value_or_none xs x ≡ id → xs ≡ slice_set xs x id
set_same xs x id e = sym (set-get_or xs x None) ∙ ap (slice_set xs x) e

-- the values of locals that none of the entries is of
pub undone_other : (es : List Entry) (xs : Ids) (x : ℕ) → (Contains (entry_locals es) x → ⊥) → value_or_none (undone es xs) x ≡ value_or_none xs x
undone_other [] xs x other = refl
undone_other (e ∷ es) xs x other =
    get_or-set_other (undone es xs) e.local x e.before None (λ same. other (zero, omega arith, sym same))
    ∙ undone_other es xs x (λ h. other (suc h.0, omega (arith, h.1), h.2))

-- ## Changes

-- a local below all of them is none of them
pub other_below : (x n : ℕ) (cs : List Change) → x < n → AreRising n cs → IsOther x cs
other_below x n [] lt rising = tt
other_below x n (c ∷ cs) lt rising = (λ e. absurd (omega (arith, lt, e, rising.0)), other_below x (suc c.local) cs (omega (arith, lt, rising.0)) rising.1)

pub not_among : (first second : Ids) (xs : List ℕ) (x : ℕ) → IsOther x (map (change_at first second) xs) → Contains xs x → ⊥
not_among first second [] x other h = omega (arith, h.1)
not_among first second (y ∷ xs) x other (zero, lt, is) = other.0 is
not_among first second (y ∷ xs) x other (suc k, lt, is) = not_among first second xs x other.1 (k, omega (arith, lt), is)

pub on_sides : (first second : Ids) (xs : List ℕ) → AreOn first second (map (change_at first second) xs)
on_sides first second [] = tt
on_sides first second (x ∷ xs) = (refl, refl, on_sides first second xs)

rising_from : (first second : Ids) (n : ℕ) (xs : List ℕ) → IsStrictlyIncreasing xs → (0 < length xs → n ≤ slice_index xs 0) → AreRising n (map (change_at first second) xs)
rising_from first second n [] rise low = tt
rising_from first second n (x ∷ []) rise low = (low (omega arith), tt)
rising_from first second n (x ∷ y ∷ xs) rise low =
    let later : IsStrictlyIncreasing (y ∷ xs) = λ k lt. (let e : suc k + 1 ≡ suc (k + 1) = omega arith in subst (λ n. slice_index (y ∷ xs) k < slice_index (x ∷ y ∷ xs) n) e (rise (suc k) (omega (arith, lt)))) in
    (low (omega arith), rising_from first second (suc x) (y ∷ xs) later (λ h. rise 0 (omega arith)))

pub sides_told : (es fs : List Entry) (now : Ids) (xs : List ℕ) → AreAssigned es fs xs → let start = undone fs now in AreSides (undone es start) now start (map (change_at (undone es start) now) xs)
sides_told es fs now xs are =
    let start = undone fs now in
    let first = undone es start in
    record {
      on = on_sides first now xs;
      rising = rising_from first now 0 xs are.rising (λ h. omega arith);
      firsts = λ x other. undone_other es start x (λ h. not_among first now xs x other (are.firsts x h));
      seconds = λ x other. sym (undone_other fs now x (λ h. not_among first now xs x other (are.seconds x h)));
    }

-- what is left of all locals of entries once they are sorted and each is there once
pub assigned_told : (es fs : List Entry) (all sorted xs : List ℕ) → all ≡ entry_locals es ++ entry_locals fs → IsPermutation all sorted → IsSorted nat_cmp sorted → IsFiltered (DiffersFromLast eqb) [] sorted xs → AreAssigned es fs xs
assigned_told es fs all sorted xs is moved inorder left =
    let e : xs ≡ dedup eqb sorted = dedup_is eqb sorted xs left in
    let among : (x : ℕ) → Contains (entry_locals es ++ entry_locals fs) x → Contains xs x =
    λ x h. subst (λ l. Contains l x) (sym e) (Contains-dedup_nat sorted x (Contains-permutation all sorted x moved (subst (λ l. Contains l x) (sym is) h))) in
    record {
      rising = subst IsStrictlyIncreasing (sym e) (IsStrictlyIncreasing-dedup sorted inorder);
      firsts = λ x h. among x (Contains-append_left (entry_locals es) (entry_locals fs) x h);
      seconds = λ x h. among x (Contains-append_right (entry_locals es) (entry_locals fs) x h);
    }

firsts_told : (first second : Ids) (xs : List ℕ) → map (with_first first) (map (second_at second) xs) ≡ map (change_at first second) xs
firsts_told first second [] = refl
firsts_told first second (x ∷ xs) = ap (λ cs. change_at first second x ∷ cs) (firsts_told first second xs)

pub sides_made : (es fs : List Entry) (now start first : Ids) (xs : List ℕ) (seconds made : List Change) → AreAssigned es fs xs → seconds ≡ map (second_at now) xs → start ≡ undone fs now → first ≡ undone es start
    → made ≡ map (with_first first) seconds → AreSides (undone es (undone fs now)) now (undone fs now) made
sides_made es fs now start first xs seconds made are es' e ef em =
    let firsts : first ≡ undone es (undone fs now) = ef ∙ ap (undone es) e in
    let is : made ≡ map (change_at (undone es (undone fs now)) now) xs = em ∙ ap (map (with_first first)) es' ∙ firsts_told first now xs ∙ ap (λ l. map (change_at l now) xs) firsts in
    subst (AreSides (undone es (undone fs now)) now (undone fs now)) (sym is) (sides_told es fs now xs are)

-- ## Two sides made one

by_test : (c : _) (a : ValueId) (p : Place) (v : ValueId) (width : ℕ) (g : Emitted) → c ≡ true → cond c (valued g a) (give p (flat.select width v a a) g) ≡ valued g a
by_test c a p v width g is = ap (λ c. cond c (valued g a) (give p (flat.select width v a a) g)) is

-- a variable that is the same on both sides
merge_same : (p : Place) (v : ValueId) (width : ℕ) (a : Option ValueId) (g : Emitted) → merge_option p v width a a g ≡ merged g a
merge_same p v width None g = refl
merge_same p v width (Some a) g = ap (λ r. merged r.given (Some r.id)) (by_test (same_id a a) a p v width g (same_itself a))

merge_alike : (p : Place) (v : ValueId) (width : ℕ) (a b : Option ValueId) (g : Emitted) → a ≡ b → merge_option p v width a b g ≡ merged g b
merge_alike p v width a b g e = ap (λ a. merge_option p v width a b g) e ∙ merge_same p v width b g

abbrev AreAlike : Ids → Ids → Type 0
AreAlike xs ys = (x : ℕ) → value_or_none xs x ≡ value_or_none ys x

merge_all_alike : (p : Place) (v : ValueId) (ws : List ℕ) (xs ys : Ids) (g : Emitted) → length xs ≡ length ws → length ys ≡ length ws → AreAlike xs ys → merge_ids p v ws xs ys g ≡ scoped g ys
merge_all_alike p v [] xs [] g l m alike = refl
merge_all_alike p v (w ∷ ws) [] ys g l m alike = absurd (omega (arith, l))
merge_all_alike p v (w ∷ ws) (a ∷ xs) (b ∷ ys) g l m alike =
    ap (λ r. let rest = merge_ids p v ws xs ys r.given in scoped rest.given (r.id ∷ rest.ids)) (merge_alike p v w a b g (alike 0))
    ∙ ap (λ rest. scoped rest.given (b ∷ rest.ids)) (merge_all_alike p v ws xs ys g (omega (arith, l)) (omega (arith, m)) (λ x. alike (suc x)))
merge_all_alike p v _ _ _ g l m alike = absurd (omega (arith, m))

-- A variable before which both sides are alike may be made one first.
merge_first : (p : Place) (v : ValueId) (x : ℕ) (ws : List ℕ) (xs ys : Ids) (g : Emitted) → length xs ≡ length ws → length ys ≡ length ws → ((k : ℕ) → k < x → value_or_none xs k ≡ value_or_none ys k)
    → let m = merge_option p v (get_or ws x 1) (value_or_none xs x) (value_or_none ys x) g in merge_ids p v ws (slice_set xs x m.id) (slice_set ys x m.id) m.given ≡ merge_ids p v ws xs ys g
merge_first p v x [] [] [] g l m alike = refl
merge_first p v x [] (a ∷ xs) ys g l m alike = absurd (omega (arith, l))
merge_first p v x (w ∷ ws) [] ys g l m alike = absurd (omega (arith, l))
merge_first p v zero (w ∷ ws) (a ∷ xs) (b ∷ ys) g l m alike =
    let r = merge_option p v w a b g in
    ap (λ r. let rest = merge_ids p v ws xs ys r.given in scoped rest.given (r.id ∷ rest.ids)) (merge_same p v w r.id r.given)
merge_first p v (suc x) (w ∷ ws) (a ∷ xs) (b ∷ ys) g l m alike =
    let r = merge_option p v (get_or ws x 1) (value_or_none xs x) (value_or_none ys x) g in
    let e = alike 0 (omega arith) in
    ap (λ q. let rest = merge_ids p v ws (slice_set xs x r.id) (slice_set ys x r.id) q.given in scoped rest.given (q.id ∷ rest.ids)) (merge_alike p v w a b r.given e)
    ∙ ap (λ rest. scoped rest.given (b ∷ rest.ids)) (merge_first p v x ws xs ys g (omega (arith, l)) (omega (arith, m)) (λ k lt. alike (suc k) (omega (arith, lt))))
    ∙ ap (λ q. let rest = merge_ids p v ws xs ys q.given in scoped rest.given (q.id ∷ rest.ids)) (sym (merge_alike p v w a b g e))
merge_first p v x _ _ _ g l m alike = absurd (omega (arith, m))

merge_this : (p : Place) (v : ValueId) (x : ℕ) (ws : List ℕ) (xs ys : Ids) (a b : Option ValueId) (g : Emitted) → length xs ≡ length ws → length ys ≡ length ws → ((k : ℕ) → k < x → value_or_none xs k ≡ value_or_none ys k)
    → a ≡ value_or_none xs x → b ≡ value_or_none ys x
    → let m = merge_option p v (get_or ws x 1) a b g in merge_ids p v ws (slice_set xs x m.id) (slice_set ys x m.id) m.given ≡ merge_ids p v ws xs ys g
merge_this p v x ws xs ys a b g l m alike ea eb =
    ap (λ a. let m = merge_option p v (get_or ws x 1) a b g in merge_ids p v ws (slice_set xs x m.id) (slice_set ys x m.id) m.given) ea
    ∙ ap (λ b. let m = merge_option p v (get_or ws x 1) (value_or_none xs x) b g in merge_ids p v ws (slice_set xs x m.id) (slice_set ys x m.id) m.given) eb
    ∙ merge_first p v x ws xs ys g l m alike

-- both sides are given the same value at a place
set_alike : (xs ys : Ids) (x k : ℕ) (id : Option ValueId) → length xs ≡ length ys → ((x ≡ k → ⊥) → value_or_none xs k ≡ value_or_none ys k) → value_or_none (slice_set xs x id) k ≡ value_or_none (slice_set ys x id) k
set_alike [] (b ∷ ys) x k id l h = absurd (omega (arith, l))
set_alike (a ∷ xs) [] x k id l h = absurd (omega (arith, l))
set_alike (a ∷ xs) (b ∷ ys) zero (suc k) id l h = h (λ e. omega (arith, e))
set_alike (a ∷ xs) (b ∷ ys) (suc x) zero id l h = h (λ e. omega (arith, e))
set_alike (a ∷ xs) (b ∷ ys) (suc x) (suc k) id l h = set_alike xs ys x k id (omega (arith, l)) (λ ne. h (λ e. ne (omega (arith, e))))
set_alike _ _ _ _ id l h = refl

-- the changes behind one are on both sides what they were
on_later : (xs ys : Ids) (x : ℕ) (id : Option ValueId) (n : ℕ) (cs : List Change) → x < n → AreRising n cs → AreOn xs ys cs → AreOn (slice_set xs x id) (slice_set ys x id) cs
on_later xs ys x id n [] lt rising on = tt
on_later xs ys x id n (c ∷ cs) lt rising on = (
  on.0 ∙ sym (get_or-set_other xs x c.local id None (λ e. absurd (omega (arith, lt, rising.0, e)))),
  on.1 ∙ sym (get_or-set_other ys x c.local id None (λ e. absurd (omega (arith, lt, rising.0, e)))),
  on_later xs ys x id (suc c.local) cs (omega (arith, lt, rising.0)) rising.1 on.2,
)

pub merge_told : (p : Place) (v : ValueId) (ws : List ℕ) (cs : List Change) (n : ℕ) (xs ys start : Ids) (w : View) (g : Emitted) → length xs ≡ length ws → length ys ≡ length ws → length start ≡ length ws → AreOn xs ys cs → AreRising n cs
    → ((x : ℕ) → IsOther x cs → value_or_none xs x ≡ value_or_none start x) → ((x : ℕ) → IsOther x cs → value_or_none ys x ≡ value_or_none start x)
    → merge_each p v ws cs (placed g (with_locals start w)) ≡ (let r = merge_ids p v ws xs ys g in placed r.given (with_locals r.ids w))
merge_told p v ws [] n xs ys start w g l m s on rising firsts seconds =
    ap (λ ids. placed g (with_locals ids w)) (ext_get_or None start ys (s ∙ sym m) (λ i lt. sym (seconds i tt)))
    ∙ ap (λ r. placed r.given (with_locals r.ids w)) (sym (merge_all_alike p v ws xs ys g l m (λ x. firsts x tt ∙ sym (seconds x tt))))
merge_told p v ws (c ∷ cs) n xs ys start w g l m s on rising firsts seconds =
    let x = c.local in
    let r = merge_option p v (get_or ws x 1) c.first c.second g in
    let from : AreRising x (c ∷ cs) = (omega arith, rising.1) in
    merge_told p v ws cs (suc x) (slice_set xs x r.id) (slice_set ys x r.id) (slice_set start x r.id) w r.given
    (length-set xs x r.id ∙ l) (length-set ys x r.id ∙ m) (length-set start x r.id ∙ s)
    (on_later xs ys x r.id (suc x) cs (omega arith) rising.1 on.2) rising.1
    (λ k other. set_alike xs start x k r.id (l ∙ sym s) (λ ne. firsts k (ne, other)))
    (λ k other. set_alike ys start x k r.id (m ∙ sym s) (λ ne. seconds k (ne, other)))
    ∙ ap (λ r. placed r.given (with_locals r.ids w))
    (merge_this p v x ws xs ys c.first c.second g l m (λ k lt. let o = other_below k x (c ∷ cs) lt from in firsts k o ∙ sym (seconds k o)) on.0 on.1)

-- the first side is had again from where both began, and the second is here
pub join_told : (ws : List ℕ) (p : Place) (v : ValueId) (first : Past) (start now left : View) (g : Emitted) (cs ds : List Change) (r total : At) → length now.locals ≡ length ws → length start.locals ≡ length now.locals
    → left ≡ with_locals start.locals now → ds ≡ cs → AreSides (before first start).locals now.locals start.locals cs
    → r ≡ merge_each p v ws ds (placed g left) → total ≡ merge_rest p v first r → total ≡ join ws p v (before first start) (placed g now)
join_told ws p v first start now left g cs ds r total l m el ed sides er et =
    let xs = undone first.entries start.locals in
    let both = merge_ids p v ws xs now.locals g in
    let locals : merge_each p v ws ds (placed g left) ≡ placed both.given (with_locals both.ids now) =
    ap (λ ds. merge_each p v ws ds (placed g left)) ed ∙ ap (λ w. merge_each p v ws cs (placed g w)) el
    ∙ merge_told p v ws cs 0 xs now.locals start.locals now g (length_undone first.entries start.locals ∙ m ∙ l) l (m ∙ l) sides.on sides.rising sides.firsts sides.seconds in
    et ∙ ap (λ r. merge_rest p v first r) (er ∙ locals)

-- ## What is out of scope

kept_none : (a : Option ValueId) → kept a None ≡ None
kept_none None = refl
kept_none (Some a) = refl

kept_same : (a : Option ValueId) → kept a a ≡ a
kept_same None = refl
kept_same (Some a) = refl

in_scope_at : (xs ys : Ids) (x : ℕ) → value_or_none (in_scope xs ys) x ≡ kept (value_or_none xs x) (value_or_none ys x)
in_scope_at (a ∷ xs) [] x = sym (kept_none (value_or_none (a ∷ xs) x))
in_scope_at (a ∷ xs) (b ∷ ys) (suc x) = in_scope_at xs ys x
in_scope_at _ _ _ = refl

length_in_scope : (xs ys : Ids) → length xs ≡ length ys → length (in_scope xs ys) ≡ length xs
length_in_scope [] ys l = refl
length_in_scope (a ∷ xs) [] l = absurd (omega (arith, l))
length_in_scope (a ∷ xs) (b ∷ ys) l = omega (arith, length_in_scope xs ys (omega (arith, l)))

leave_from : (xs ys now : Ids) (cs : List Change) → length now ≡ length (in_scope xs ys) → AreOn xs ys cs → ((x : ℕ) → IsOther x cs → value_or_none now x ≡ value_or_none (in_scope xs ys) x) → leave_each cs now ≡ in_scope xs ys
leave_from xs ys now [] l on others = ext_get_or None now (in_scope xs ys) l (λ i lt. others i tt)
leave_from xs ys now (c ∷ cs) l on others =
    let id = kept c.first c.second in
    let all = in_scope xs ys in
    let is : id ≡ value_or_none all c.local = ap (λ a. kept a c.second) on.0 ∙ ap (kept (value_or_none xs c.local)) on.1 ∙ sym (in_scope_at xs ys c.local) in
    let same : slice_set all c.local id ≡ all = ap (slice_set all c.local) is ∙ set-get_or all c.local None in
    leave_from xs ys (slice_set now c.local id) cs (length-set now c.local id ∙ l) on.2
    (λ x other. set_alike now all c.local x id l (λ ne. others x (ne, other)) ∙ ap (λ l. value_or_none l x) same)

leave_same : (start now : Ids) (cs : List Change) → length start ≡ length now → AreSides start now start cs → leave_each cs start ≡ in_scope start now
leave_same start now cs l sides =
    leave_from start now start cs (sym (length_in_scope start now l)) sides.on
    (λ x other. sym (in_scope_at start now x ∙ ap (kept (value_or_none start x)) (sides.seconds x other) ∙ kept_same (value_or_none start x)))

pub leave_told : (start first now left : View) (cs ds : List Change) → length start.locals ≡ length now.locals → first ≡ start → left ≡ with_locals start.locals now → ds ≡ cs → AreSides first.locals now.locals start.locals cs
    → with_locals (leave_each ds left.locals) left ≡ leave start now
leave_told start first now left cs ds l ef el ed sides =
    let same : AreSides start.locals now.locals start.locals cs = subst (λ w. AreSides w.locals now.locals start.locals cs) ef sides in
    ap (λ l. with_locals (leave_each l left.locals) left) ed ∙ ap (λ w. with_locals (leave_each cs w.locals) w) el
    ∙ ap (λ l. with_locals l now) (leave_same start.locals now.locals cs l same)
