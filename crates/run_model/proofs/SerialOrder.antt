-- The sort of std puts decided packets into the order of the definition: its list rises, and has the same members.
use Rattle.std.proofs.Common.{◌≡◌, ℕ, suc, ◌+◌, ◌<◌, ◌≤◌, false, cond, eqb, List, [], ◌∷◌, Some, length, get_or, inl, inr, refl, sym, ◌∙◌, ap, subst, arith}
use Rattle.std.specs.Prelude.{⊤}
use Rattle.std.specs.List.{sum_by}
use Rattle.std.specs.List.Sorted.{IsPermutation}
use Rattle.std.specs.Ordering.{nat_cmp, ordering_then, is_lt}
use Rattle.std.proofs.lemmas.Bool.{cases_Bool, eqb-true, eq-eqb, ne_eqb}
use Rattle.std.proofs.lemmas.Bool.Decides.{nat_tests}
use Rattle.std.proofs.lemmas.List.Sums.{sum_by-cons}
use Rattle.std.proofs.lemmas.List.Sorted.{Contains-permutation, IsPermutation-sym, sum_by-IsPermutation}
use Rattle.std.proofs.lemmas.Option.{get_or_from_slice_get, slice_get-get_or, slice_get_within}
use Rattle.run_model.specs.declared.fate.Fate.{Fate}
use Rattle.run_model.specs.declared.serial.Decided.{Decided}
use Rattle.run_model.specs.Members.{Member}
use Rattle.run_model.specs.Order.{decided_from, sorted}
use Rattle.run_model.proofs.Members.{get_member, member_get}
use Rattle.run_model.proofs.RisingEntries.{Rising}
use Rattle.run_model.proofs.SerialSort.{Apart, AtOrBefore, entries_apart, is_order, member_sorted, order_unique, sorted_member, strictly, through}

-- ---- what a list has in another order

moved_member : (xs ys : List Decided) (x : Decided) → IsPermutation xs ys → Member x xs → Member x ys
moved_member xs ys x moved m =
    let at = member_get x xs m in
    let there = Contains-permutation xs ys x moved (at.0, slice_get_within xs at.0 x at.1, get_or_from_slice_get xs at.0 x x at.1) in
    get_member ys there.0 x (slice_get-get_or ys there.0 x there.1 ∙ ap (λ y. Some y) there.2)

-- how often a number stands there
abbrev is : ℕ → Decided → ℕ
is p x = cond (eqb x.number p) 1 0

abbrev count : ℕ → List Decided → ℕ
count p [] = 0
count p (x ∷ xs) = is p x + count p xs

count_sum : (p : ℕ) (xs : List Decided) → sum_by (is p) xs ≡ count p xs
count_sum p [] = refl
count_sum p (x ∷ xs) = sum_by-cons (is p) x xs ∙ ap (λ n. is p x + n) (count_sum p xs)

count_none : (p : ℕ) (xs : List Decided) → ((y : Decided) → Member y xs → y.number ≡ p → ⊥) → count p xs ≡ 0
count_none p [] none = refl
count_none p (x ∷ xs) none = rw (ne_eqb x.number p (none x (inl refl))) (let rest = count_none p xs (λ y m. none y (inr m)) in omega arith)

count_some : (y : Decided) (xs : List Decided) → Member y xs → 0 < count y.number xs
count_some y [] m = absurd m
count_some y (x ∷ xs) (inl e) = let one = eq-eqb x.number y.number (ap (λ z. z.number) e) in rw one (omega arith)
count_some y (x ∷ xs) (inr m) = let rest = count_some y xs m in omega arith

apart_once : (p : ℕ) (xs : List Decided) → Apart xs → count p xs ≤ 1
apart_once p [] h = omega arith
apart_once p (x ∷ xs) h = elim (cases_Bool (eqb x.number p)) [
  | inl t ↦ rw t (let none = count_none p xs (λ y m q. h.0 y m (q ∙ sym (eqb-true x.number p t))) in omega arith)
  | inr t ↦ rw t (let rest = apart_once p xs h.1 in omega arith)
]

once_apart : (xs : List Decided) → ((p : ℕ) → count p xs ≤ 1) → Apart xs
once_apart [] h = tt
once_apart (x ∷ xs) h = (
  (λ y m q.
      let one = eq-eqb x.number y.number (sym q) in
      let both : 1 + count y.number xs ≤ 1 = (rw one at (h y.number)) in
      let some = count_some y xs m in absurd (omega arith)),
  once_apart xs (λ p. let all = h p in omega arith),
)

-- ---- the sort of std

-- y isn't less than x by the derived comparison
abbrev NotLess : Decided → Decided → Type 0
NotLess y x = is_lt (ordering_then (nat_cmp y.version x.version) (ordering_then (nat_cmp y.event x.event) (nat_cmp y.number x.number))) ≡ false

before_if_not_less : (x y : Decided) → NotLess y x → AtOrBefore x y
before_if_not_less x y h = record {
  version = grind (arith, nat_tests);
  event = grind (arith, nat_tests);
  number = grind (arith, nat_tests);
}

abbrev Ascends : List Decided → Type 0
Ascends [] = ⊤
Ascends (x ∷ xs) = ((y : Decided) → Member y xs → AtOrBefore x y) × Ascends xs

neighbours_ascend : (xs : List Decided) → ((k : ℕ) (d : Decided) → 0 ≤ k → k + 1 < length xs → NotLess (get_or xs (k + 1) d) (get_or xs k d)) → Ascends xs
neighbours_ascend [] h = tt
neighbours_ascend (x ∷ []) h = ((λ y m. absurd m), tt)
neighbours_ascend (x ∷ (y ∷ ys)) h =
    let rest = neighbours_ascend (y ∷ ys) (λ k d low inside.
    let next : suc k + 1 ≡ suc (k + 1) = omega arith in
    subst (λ n. NotLess (get_or (x ∷ (y ∷ ys)) n d) (get_or (x ∷ (y ∷ ys)) (suc k) d)) next (h (suc k) d (omega arith) (omega arith))) in
    let first = before_if_not_less x y (h 0 x (omega arith) (omega arith)) in
    ((λ z m. elim m [ inl e ↦ subst (λ w. AtOrBefore x w) e first | inr b ↦ through x y z first (rest.0 z b) ]), rest)

rising_if_apart : (xs : List Decided) → Ascends xs → Apart xs → Rising xs
rising_if_apart [] up h = tt
rising_if_apart (x ∷ xs) up h = ((λ y m. strictly x y (up.0 y m) (λ q. h.0 y m (sym q))), rising_if_apart xs up.1 h.1)

pub sorted_by_std : (fates : List Fate) (made : List Decided) → IsPermutation (decided_from 0 fates) made
    → ((k : ℕ) (d : Decided) → 0 ≤ k → k + 1 < length made → NotLess (get_or made (k + 1) d) (get_or made k d)) → made ≡ sorted (decided_from 0 fates)
sorted_by_std fates made moved h =
    let given = decided_from 0 fates in
    let order = is_order fates in
    order_unique fates made (record {
      rising = rising_if_apart made (neighbours_ascend made h) (once_apart made (λ p.
          let few = apart_once p given (entries_apart 0 fates) in
          omega (arith, count_sum p given, count_sum p made, sum_by-IsPermutation (is p) given made moved)));
      sound = λ e m. order.sound e (sorted_member e given (moved_member made given e (IsPermutation-sym given made moved) m));
      complete = λ e there. moved_member given made e moved (member_sorted e given (order.complete e there));
    })
