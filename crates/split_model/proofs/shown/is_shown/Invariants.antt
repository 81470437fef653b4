use Rattle.std.proofs.Common.{◌≡◌, false, ◌&&◌}
use Rattle.flat_ir.specs.Program.{program_of, step_at}
use Rattle.split_model.specs.Split.{is_pre, any_below}
use Rattle.split_model.specs.Shown.{looks_at}
use Rattle.split_model.proofs.shown.is_shown.Given as goal

abbrev pub invariant-loop-i : goal.invariant-loop-i
invariant-loop-i l = any_below l.i (λ i. is_pre l.s i && looks_at l.object (step_at (program_of l.f) i).work) ≡ false
