use Rattle.std.proofs.Common.{◌≡◌, ◌≤◌, ◌<◌, ◌*◌, ℕ, length, get_or}
use Rattle.flat_ir.specs.Program.{program_of}
use Rattle.split_model.specs.Layouts.{values_below}
use Rattle.server_runtime.proofs.plan.firsts_of.Given as goal

abbrev pub invariant-loop-instr : goal.invariant-loop-instr
invariant-loop-instr l = record {
  count : length l.firsts.items ≡ l.instr-index;
  each : (i : ℕ) → i < l.instr-index → get_or l.firsts.items i 0 ≡ length (values_below (program_of l.f) i);
  next : l.next ≡ length (values_below (program_of l.f) l.instr-index);
  low : l.next ≤ 9 * l.instr-index;
}
