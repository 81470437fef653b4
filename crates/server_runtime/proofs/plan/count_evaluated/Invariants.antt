use Rattle.std.proofs.Common.{◌≡◌, ◌≤◌}
use Rattle.flat_ir.specs.Program.{program_of}
use Rattle.split_model.specs.Counts.{count_below}
use Rattle.server_runtime.specs.Serving.{is_evaluated}
use Rattle.server_runtime.proofs.plan.count_evaluated.Given as goal

abbrev pub invariant-loop-place : goal.invariant-loop-place
invariant-loop-place l = record {
  few : l.evaluated ≤ l.place;
  counted : l.evaluated ≡ count_below l.place (is_evaluated (program_of l.f) l.s);
}
