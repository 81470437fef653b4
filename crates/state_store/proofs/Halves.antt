-- What a search by halves finds among sorted entries.
use Rattle.std.proofs.Common.{◌≡◌, ℕ, zero, suc, ◌<◌, ◌≤◌, T, List, [], ◌∷◌, length, Result, Ok, Err, IfOk, IfErr, ◌⊎◌, inl, inr, refl, sym, ap, ◌∙◌, arith}
use Rattle.std.specs.declared.cmp.Ordering.{Ordering}
use Rattle.std.specs.declared.cmp.Ordering.TheVariants.{Less, Equal, Greater}
use Rattle.std.specs.Ordering.{ordering_index, ordering_reverse}
use Rattle.std.specs.Cmp.{alike_right}
use Rattle.std.specs.FinMap.Entries.{below_all}
use Rattle.std.specs.List.Sorted.{IsSearchInRange, IsBinarySearchResult, IsNonDecreasingBy}
use Rattle.std.proofs.Math.Nat.{eq-or-lt_of_le, le_of_eq}
use Rattle.std.proofs.lemmas.Cmp.{nat_list_cmp_total}
use Rattle.std.proofs.lemmas.List.Sorted.{IsNonDecreasingBy-from_default}
use Rattle.state_store.specs.Store.{key_cmp}
use Rattle.state_store.specs.Places.{Entries, key_at, IsSorted, IsPlaceOf, IsGapFor}
use Rattle.lemmas.proofs.Tests.{T_first, T_second, lt_less}

below_at : (x : List ℕ) (es : Entries) (j : ℕ) → T (below_all key_cmp x es) → j < length es → key_cmp x (key_at es j) ≡ Less
below_at x [] j below lt = absurd (omega arith)
below_at x (e ∷ es) zero below lt = lt_less _ (T_first _ _ below)
below_at x (e ∷ es) (suc j) below lt = below_at x es j (T_second _ _ below) (omega arith)

-- of two entries the earlier one has the lower key
lower_at : (es : Entries) (i j : ℕ) → IsSorted es → i < j → j < length es → key_cmp (key_at es i) (key_at es j) ≡ Less
lower_at [] i j sorted lt within = absurd (omega arith)
lower_at (e ∷ es) i zero sorted lt within = absurd (omega arith)
lower_at (e ∷ es) zero (suc j) sorted lt within = below_at e.0 es j (T_first _ _ sorted) (omega arith)
lower_at (e ∷ es) (suc i) (suc j) sorted lt within = lower_at es i j (T_second _ _ sorted) (omega arith) (omega arith)

-- a lower key doesn't compare higher with a third
no_higher : (x y k : List ℕ) (r : Ordering) → key_cmp x y ≡ Less → key_cmp y k ≡ r → ordering_index (key_cmp x k) ≤ ordering_index r
no_higher x y k Less less e = rw (nat_list_cmp_total.trans x y k less e) (omega arith)
no_higher x y k Equal less e = rw (sym (alike_right nat_list_cmp_total y k x e) ∙ less) (omega arith)
no_higher x y k Greater less e = at_most (key_cmp x k)
  where
    at_most : (r : Ordering) → ordering_index r ≤ 2
    at_most Less = omega arith
    at_most Equal = omega arith
    at_most Greater = omega arith

-- the comparisons with a key rise along the entries
rises : (es : Entries) (k : List ℕ) → IsSorted es → IsNonDecreasingBy (λ e. ordering_index (key_cmp e.0 k)) es
rises es k sorted = IsNonDecreasingBy-from_default (λ e. ordering_index (key_cmp e.0 k)) es ([], []) (λ i j le within. at i j within (eq-or-lt_of_le le))
  where
    at : (i j : ℕ) → j < length es → (i ≡ j) ⊎ (i < j) → ordering_index (key_cmp (key_at es i) k) ≤ ordering_index (key_cmp (key_at es j) k)
    at i j within (inl same) = le_of_eq (ap (λ n. ordering_index (key_cmp (key_at es n) k)) same)
    at i j within (inr lt) = no_higher (key_at es i) (key_at es j) k (key_cmp (key_at es j) k) (lower_at es i j sorted lt within) refl

turned : (x y : List ℕ) (r : Ordering) → key_cmp x y ≡ r → key_cmp y x ≡ ordering_reverse r
turned x y r e = nat_list_cmp_total.antisymm y x ∙ ap ordering_reverse e

-- a search by halves ends at the place of the key, or at the gap for it
pub searched : (es : Entries) (k : List ℕ) (r : Result ℕ ℕ) → IsSorted es → IsSearchInRange r (length es) → IsBinarySearchResult (λ e. key_cmp e.0 k) es r → record { found : IfOk r (IsPlaceOf es k); absent : IfErr r (IsGapFor es k) }
searched es k (Ok i) sorted within equal = record {
  found = record {
    in_range = within;
    before = λ j lt. turned (key_at es j) k Less (sym (alike_right nat_list_cmp_total (key_at es i) k (key_at es j) (equal ([], []))) ∙ lower_at es j i sorted lt within);
    here = turned (key_at es i) k Equal (equal ([], []));
  };
  absent = tt;
}
searched es k (Err i) sorted within parted = record {
  found = tt;
  absent = record {
    in_range = within;
    before = λ j lt. turned (key_at es j) k Less ((parted (rises es k sorted)).0 j ([], []) (omega arith) lt);
    next = λ lt. turned (key_at es i) k Greater ((parted (rises es k sorted)).1 i ([], []) (omega arith) lt);
  };
}
