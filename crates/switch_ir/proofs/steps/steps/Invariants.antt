use Rattle.std.proofs.Common.{◌≡◌, ◌*◌, ◌≤◌, length, map}
use Rattle.flat_ir.specs.Program.{program_of}
use Rattle.split_model.specs.Layouts.{values_below}
use Rattle.switch_ir.specs.Code.{pass_step_of}
use Rattle.switch_ir.specs.Emitted.{steps_below}
use Rattle.switch_ir.specs.Emitting.{stage_in}
use Rattle.switch_ir.proofs.steps.steps.Given as goal

abbrev pub invariant-loop-i : goal.invariant-loop-i
invariant-loop-i l = record {
  numbered : l.number ≡ length (values_below (program_of l.f) l.i);
  low : l.number ≤ 9 * l.i;
  so_far : map pass_step_of l.made ≡ steps_below (program_of l.f) (stage_in l.role l.s) l.i;
}
