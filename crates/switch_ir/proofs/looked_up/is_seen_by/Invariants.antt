use Rattle.std.proofs.Common.{◌≡◌, ◌&&◌, false}
use Rattle.std.specs.Prelude.{is_some}
use Rattle.flat_ir.specs.Program.{program_of, step_at}
use Rattle.split_model.specs.Shown.{looks_at}
use Rattle.split_model.specs.Split.{any_below}
use Rattle.switch_ir.specs.Emitting.{stage_in}
use Rattle.switch_ir.proofs.looked_up.is_seen_by.Given as goal

abbrev pub invariant-loop-i : goal.invariant-loop-i
invariant-loop-i l =
    any_below l.i (λ i. is_some (stage_in l.role l.s i) && looks_at l.object (step_at (program_of l.f) i).work) ≡ false
