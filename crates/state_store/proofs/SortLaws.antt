-- Entries have one order of rising keys.
use Rattle.std.proofs.Common.{◌≡◌, ◌⊎◌, inl, inr, ℕ, suc, ◌+◌, ◌<◌, Bool, true, false, cond, ◌&&◌, T, List, [], ◌∷◌, refl, sym, ap, ap₂, subst, ◌∙◌, arith, true≢false, add-one, IsPermutation, IsSorted}
use Rattle.std.specs.Prelude.{⊤}
use Rattle.std.specs.Cmp.{tied_itself}
use Rattle.std.specs.List.{sum_by}
use Rattle.std.specs.Ordering.{eq_by_cmp, is_eq, is_lt, is_gt, ordering_then, ordering_reverse}
use Rattle.std.specs.declared.cmp.Ordering.{Ordering}
use Rattle.std.specs.declared.cmp.Ordering.TheVariants.{Less}
use Rattle.std.specs.FinMap.{is_sorted}
use Rattle.std.specs.FinMap.Entries.{below_all}
use Rattle.std.proofs.lemmas.Bool.{cases_Bool, and_parts}
use Rattle.std.proofs.lemmas.Cmp.{nat_list_cmp_total, upto}
use Rattle.std.proofs.lemmas.List.Sums.{sum_by-cons}
use Rattle.std.proofs.lemmas.List.Sorted.{sum_by-IsPermutation}
use Rattle.std.proofs.lemmas.Map.Lookups.{exact_bytes}
use Rattle.slot_table.specs.Table.{Entry}
use Rattle.state_store.specs.Places.{Entries}
use Rattle.state_store.specs.Store.{key_cmp}
use Rattle.lemmas.proofs.Tests.{T_first, T_second, eq_equal, lt_less}

-- the order of pairs
abbrev pub entry_cmp : Entry → Entry → Ordering
entry_cmp x y = ordering_then (key_cmp x.0 y.0) (key_cmp x.1 y.1)

-- ---- how often a list has an entry
abbrev pub same : Entry → Entry → Bool
same x y = eq_by_cmp key_cmp x.0 y.0 && eq_by_cmp key_cmp x.1 y.1

abbrev pub once : Entry → Entry → ℕ
once d x = cond (same d x) 1 0

abbrev pub count : Entry → Entries → ℕ
count d [] = 0
count d (x ∷ xs) = once d x + count d xs

count_sum : (d : Entry) (xs : Entries) → sum_by (once d) xs ≡ count d xs
count_sum d [] = refl
count_sum d (x ∷ xs) = sum_by-cons (once d) x xs ∙ ap (λ n. once d x + n) (count_sum d xs)

same_is : (x y : Entry) → same x y ≡ true → x ≡ y
same_is x y h =
    let parts = and_parts (eq_by_cmp key_cmp x.0 y.0) (eq_by_cmp key_cmp x.1 y.1) h in
    ap₂ (λ (k v : List ℕ). (k, v)) (exact_bytes x.0 y.0 (eq_equal (key_cmp x.0 y.0) parts.0)) (exact_bytes x.1 y.1 (eq_equal (key_cmp x.1 y.1) parts.1))

once_self : (x : Entry) → once x x ≡ 1
once_self x = ap₂ (λ a b. cond (is_eq a && is_eq b) 1 0) (tied_itself nat_list_cmp_total x.0) (tied_itself nat_list_cmp_total x.1)

pub first_or_behind : (d x : Entry) (xs : Entries) → 0 < count d (x ∷ xs) → (d ≡ x) ⊎ (0 < count d xs)
first_or_behind d x xs some = elim (cases_Bool (same d x)) [
  | inl equal ↦ inl (same_is d x equal)
  | inr other ↦ inr (let behind : 0 < cond false 1 0 + count d xs = subst (λ b. 0 < cond b 1 0 + count d xs) other some in omega arith)
]

-- ---- lists that rise
abbrev pub AtMost : Entry → Entry → Type 0
AtMost x y = is_gt (key_cmp x.0 y.0) ≡ false

abbrev pub Ascends : Entries → Type 0
Ascends [] = ⊤
Ascends (x ∷ xs) = ((d : Entry) → 0 < count d xs → AtMost x d) × Ascends xs

turned : (a b : Ordering) → is_lt (ordering_then a b) ≡ false → is_gt (ordering_reverse a) ≡ false
turned Less b h = absurd (true≢false h)
turned _ b h = refl

pub neighbours : (x y : Entry) → is_lt (entry_cmp y x) ≡ false → AtMost x y
neighbours x y h = ap is_gt (nat_list_cmp_total.antisymm x.0 y.0) ∙ turned (key_cmp y.0 x.0) (key_cmp y.1 x.1) h

pub at_most : (x y : Entry) (ys : Entries) (d : Entry) → AtMost x y → ((d : Entry) → 0 < count d ys → AtMost y d) → ((d ≡ y) ⊎ (0 < count d ys)) → AtMost x d
at_most x y ys d first rest (inl e) = subst (λ z. AtMost x z) (sym e) first
at_most x y ys d first rest (inr some) = upto nat_list_cmp_total x.0 y.0 d.0 first (rest d some)

ascends : (xs : Entries) → IsSorted entry_cmp xs → Ascends xs
ascends [] sorted = tt
ascends (x ∷ []) sorted = (λ d some. absurd (omega arith), tt)
ascends (x ∷ y ∷ ys) sorted =
    let tail : IsSorted entry_cmp (y ∷ ys) = λ k d p q. rw add-one (rw add-one at (sorted (suc k) d (omega arith) (omega arith))) in
    let rest = ascends (y ∷ ys) tail in
    let first = neighbours x y (sorted 0 x (omega arith) (omega arith)) in
    (λ d some. at_most x y ys d first rest.0 (first_or_behind d y ys some), rest)

-- an entry behind the first has a greater key
above : (e d : Entry) (es : Entries) → T (below_all key_cmp e.0 es) → 0 < count d es → key_cmp e.0 d.0 ≡ Less
above e d [] below some = absurd (omega arith)
above e d (f ∷ es) below some = elim (first_or_behind d f es some) [
  | inl is ↦ ap (λ (z : Entry). key_cmp e.0 z.0) is ∙ lt_less (key_cmp e.0 f.0) (T_first _ _ below)
  | inr behind ↦ above e d es (T_second _ _ below) behind
]

contrary : (o : Ordering) → o ≡ Less → is_gt (ordering_reverse o) ≡ true
contrary o e = ap (λ r. is_gt (ordering_reverse r)) e

heads : (e y : Entry) (es ys : Entries) → T (is_sorted key_cmp (e ∷ es)) → Ascends (y ∷ ys) → ((d : Entry) → count d (y ∷ ys) ≡ count d (e ∷ es)) → y ≡ e
heads e y es ys up rise alike =
    let own_y = once_self y in
    let own_e = once_self e in
    let at_y = alike y in
    let at_e = alike e in
    let some_y : 0 < count y (e ∷ es) = omega arith in
    let some_e : 0 < count e (y ∷ ys) = omega arith in
    elim (first_or_behind y e es some_y) [
      | inl is ↦ is
      | inr behind ↦ elim (first_or_behind e y ys some_e) [
        | inl is ↦ sym is
        | inr late ↦
            let less = above e y es (T_first _ _ up) behind in
            absurd (true≢false (sym (ap is_gt (nat_list_cmp_total.antisymm y.0 e.0) ∙ contrary (key_cmp e.0 y.0) less) ∙ rise.0 e late))
      ]
    ]

one_order : (es ys : Entries) → T (is_sorted key_cmp es) → Ascends ys → ((d : Entry) → count d ys ≡ count d es) → ys ≡ es
one_order [] [] up rise alike = refl
one_order [] (y ∷ ys) up rise alike = absurd (let own = once_self y in let at = alike y in omega arith)
one_order (e ∷ es) [] up rise alike = absurd (let own = once_self e in let at = alike e in omega arith)
one_order (e ∷ es) (y ∷ ys) up rise alike =
    let head = heads e y es ys up rise alike in
    let tail : (d : Entry) → count d ys ≡ count d es = λ d. (let at = alike d in let same_once : once d y ≡ once d e = ap (once d) head in omega arith) in
    ap₂ (λ (z : Entry) zs. z ∷ zs) head (one_order es ys (T_second _ _ up) rise.1 tail)

pub ascending_is : (es ys : Entries) → T (is_sorted key_cmp es) → IsPermutation ys es → Ascends ys → ys ≡ es
ascending_is es ys up moved rise =
    one_order es ys up rise (λ d. sym (count_sum d ys) ∙ sym (sum_by-IsPermutation (once d) ys es moved) ∙ count_sum d es)

pub sorted_is : (es ys : Entries) → T (is_sorted key_cmp es) → IsPermutation ys es → IsSorted entry_cmp ys → ys ≡ es
sorted_is es ys up moved sorted = ascending_is es ys up moved (ascends ys sorted)
