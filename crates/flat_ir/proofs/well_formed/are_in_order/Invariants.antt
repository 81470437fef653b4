use Rattle.std.proofs.Common.{◌≡◌, drop}
use Rattle.flat_ir.specs.Tests.{rise_from}
use Rattle.flat_ir.proofs.well_formed.are_in_order.Given as goal

abbrev pub invariant-loop-written : goal.invariant-loop-written
invariant-loop-written l = rise_from l.least (drop l.written-index l.fields) ≡ rise_from 0 l.fields
