use Rattle.std.proofs.Common.{◌≡◌, ◌≤◌, List}
use Rattle.flat_ir.specs.Program.{program_of, step_at}
use Rattle.split_model.specs.Counts.{count_below}
use Rattle.split_model.specs.declared.split.Part.{Part}
use Rattle.server_runtime.specs.Plans.{AreReplicated}
use Rattle.server_runtime.specs.Serving.{is_followed}
use Rattle.server_runtime.proofs.plan.count_writes.Given as goal

abbrev pub invariant-loop-instr : goal.invariant-loop-instr
invariant-loop-instr l = record {
  few : l.writes ≤ l.instr-index;
  counted : (split : List Part) → AreReplicated (program_of l.f) split l.followed
      → l.writes ≡ count_below l.instr-index (λ i. is_followed (program_of l.f) split (step_at (program_of l.f) i).work);
}
