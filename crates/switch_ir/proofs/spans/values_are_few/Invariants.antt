use Rattle.std.proofs.Common.{take}
use Rattle.switch_ir.specs.LastReads.{HaveFewValues}
use Rattle.switch_ir.proofs.spans.values_are_few.Given as goal

abbrev pub invariant-loop-object : goal.invariant-loop-object
invariant-loop-object l = HaveFewValues (take l.object-index l.object-items)
