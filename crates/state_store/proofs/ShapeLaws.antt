-- Rows whose numbers lie one behind the other.
use Rattle.std.proofs.Common.{◌≡◌, ℕ, zero, suc, ◌+◌, List, [], ◌∷◌, map, drop, Some, slice_get, ap, ◌∙◌, arith}
use Rattle.std.proofs.lemmas.Option.{none-some, same_Some}
use Rattle.state_store.specs.declared.object.Row.{Row}
use Rattle.state_store.specs.Shapes.{row_of_list}

-- the row at a place
pub got_map : (keys : ℕ) (lists : List (List ℕ)) (p : ℕ) (l : List ℕ) → slice_get lists p ≡ Some l → slice_get (map (row_of_list keys) lists) p ≡ Some (row_of_list keys l)
got_map keys [] p l e = absurd (none-some l e)
got_map keys (x ∷ lists) zero l e = ap (λ z. Some (row_of_list keys z)) (same_Some x l e)
got_map keys (x ∷ lists) (suc p) l e = got_map keys lists p l e

-- the rows from a place on
pub rest_from : (rows : List Row) (p : ℕ) (row : Row) → slice_get rows p ≡ Some row → drop p rows ≡ row ∷ drop (p + 1) rows
rest_from [] p row e = absurd (none-some row e)
rest_from (x ∷ rows) zero row e = ap (λ z. z ∷ rows) (same_Some x row e)
rest_from (x ∷ rows) (suc p) row e =
    rest_from rows p row e ∙ ap (λ k. row ∷ drop k (x ∷ rows)) (let s : suc (p + 1) ≡ suc p + 1 = omega arith in s)
