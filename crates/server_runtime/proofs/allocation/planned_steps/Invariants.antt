use Rattle.std.specs.List.{AllByRecursion as Each}
use Rattle.flat_ir.specs.Program.{program_of}
use Rattle.server_runtime.specs.Resolved.{instructions_of, IsResolved}
use Rattle.server_runtime.specs.Walks.{is_due, AreListed}
use Rattle.server_runtime.proofs.allocation.planned_steps.Given as goal

abbrev pub invariant-loop-i : goal.invariant-loop-i
invariant-loop-i l = record {
  steps : AreListed (is_due (program_of l.whole.flat) l.whole.split) 0 l.i (instructions_of l.steps.items);
  resolved : Each (IsResolved (program_of l.whole.flat) l.values) l.steps.items;
}
