use Rattle.std.proofs.Common.{◌≡◌, ◌++◌, drop}
use Rattle.state_store.specs.Shapes.{rows_in}
use Rattle.state_store.proofs.rows.one_by_one.Given as goal

abbrev pub invariant-loop-place : goal.invariant-loop-place
invariant-loop-place l = l.rows.items ++ drop l.place (rows_in l.form) ≡ rows_in l.form
