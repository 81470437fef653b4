use Rattle.std.proofs.Common.{◌≡◌}
use Rattle.switch_ir.specs.Emitted.{highest_of}
use Rattle.switch_ir.specs.Emitting.{stage_in}
use Rattle.switch_ir.proofs.steps.highest.Given as goal

abbrev pub invariant-loop-i : goal.invariant-loop-i
invariant-loop-i l = l.highest ≡ highest_of (stage_in l.role l.s) l.i
