use Rattle.std.proofs.Common.{◌≡◌, ◌++◌, drop}
use Rattle.state_store.specs.Store.{rows_from}
use Rattle.state_store.proofs.sorted_rows.list_rows.Given as goal

abbrev pub invariant-loop-keys : goal.invariant-loop-keys
invariant-loop-keys l = l.rows ++ rows_from (drop l.keys-index l.entries) ≡ rows_from l.entries
