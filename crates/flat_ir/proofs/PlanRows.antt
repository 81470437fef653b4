-- The register of a value once one was given to a value.
use Rattle.std.proofs.Common.{◌≡◌, ◌≢◌, ℕ, ◌+◌, ◌≤◌, true, [], ◌∷◌, Some, refl, ap, inl, inr, arith}
use Rattle.std.specs.Cmp.{tied_itself}
use Rattle.std.specs.Ordering.{eq_by_cmp, is_eq}
use Rattle.std.specs.FinMap.{insert, contains_key, len, get-insert, len-insert}
use Rattle.std.proofs.lemmas.Bool.{cases_Bool}
use Rattle.std.proofs.lemmas.Cmp.{nat_list_cmp_total}
use Rattle.std.proofs.lemmas.Map.Lookups.{exact_bytes}
use Rattle.slot_table.specs.Table.{key_cmp, Contents}
use Rattle.flat_ir.specs.Plan.{register_in}
use Rattle.lemmas.proofs.Tests.{eq_equal}

same_value : (q v : ℕ) → eq_by_cmp key_cmp (q ∷ []) (v ∷ []) ≡ true → q ≡ v
same_value q v e =
    let keys = exact_bytes (q ∷ []) (v ∷ []) (eq_equal (key_cmp (q ∷ []) (v ∷ [])) e) in cc

itself : (v : ℕ) → eq_by_cmp key_cmp (v ∷ []) (v ∷ []) ≡ true
itself v = ap is_eq (tied_itself nat_list_cmp_total (v ∷ []))

-- rows where a value was given a register
abbrev pub with_register : Contents → ℕ → ℕ → Contents
with_register rows v r = insert rows (v ∷ []) (r ∷ [])

pub with_register_itself : (rows : Contents) (v r : ℕ) → register_in (with_register rows v r) v ≡ Some r
with_register_itself rows v r =
    rw (get-insert nat_list_cmp_total rows (v ∷ []) (r ∷ []) (v ∷ []), itself v) refl

pub with_register_other : (rows : Contents) (v r q : ℕ) → q ≢ v → register_in (with_register rows v r) q ≡ register_in rows q
with_register_other rows v r q other = elim (cases_Bool (eq_by_cmp key_cmp (q ∷ []) (v ∷ []))) [
  | inl same ↦ absurd (other (same_value q v same))
  | inr apart ↦ rw (get-insert nat_list_cmp_total rows (v ∷ []) (r ∷ []) (q ∷ []), apart) refl
]

pub with_register_len : (rows : Contents) (v r : ℕ) → len (with_register rows v r) ≤ len rows + 1
with_register_len rows v r = elim (cases_Bool (contains_key rows (v ∷ []))) [
  | inl there ↦ rw (len-insert nat_list_cmp_total rows (v ∷ []) (r ∷ []), there) (omega arith)
  | inr new ↦ rw (len-insert nat_list_cmp_total rows (v ∷ []) (r ∷ []), new) (omega arith)
]
