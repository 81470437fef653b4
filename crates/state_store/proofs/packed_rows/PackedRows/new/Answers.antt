use Rattle.std.proofs.Common.{ℕ, ap₂}
use Rattle.state_store.specs.Fitted.{packing_of}
use Rattle.state_store.specs.Sizes.{table_of}
use Rattle.state_store.specs.Store.{Contents}
use Rattle.state_store.proofs.FittedLaws.{new_roomy, none_hold, none_contents}
use Rattle.state_store.proofs.packed_rows.PackedRows.new.Goals as goal

pub invariant_of-result : goal.invariant_of-result
invariant_of-result c =
    let made = c.in_ok-table.ensures in
    none_hold _ (table_of c.in_ok-table.table).rows made.rows
    (new_roomy c.args.keys.now c.args.values.now _ _ c.in_ok-table.table c.in-Some.key_words c.in-Some-words_for.value_words c.as_slice.ensures c.as_slice-2.ensures c.in-Some.ensures.room c.in-Some-words_for.ensures.room made.keys made.values)

pub returns : goal.returns
returns c =
    let made = c.in_ok-table.ensures in
    ap₂ (λ (n : ℕ) (m : Contents). record { keys = c.args.keys.now; values = c.args.values.now; capacity = n; contents = m }) made.capacity
    (none_contents (packing_of c.args.keys.now c.args.values.now c.in_ok-table.table) (table_of c.in_ok-table.table).rows made.rows)
