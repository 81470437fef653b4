use Rattle.std.proofs.Common.{◌≡◌, ◌++◌, drop}
use Rattle.run_model.specs.Parts.{parts_from}
use Rattle.run_model.proofs.run.store_rows.Given as goal

abbrev pub invariant-loop-number : goal.invariant-loop-number
invariant-loop-number l = l.items.items ++ parts_from l.number (drop l.number l.objects) l.store ≡ parts_from 0 l.objects l.store
