use Rattle.std.proofs.Common.{◌≡◌, ◌<◌, ℕ, false, length, get_or}
use Rattle.flat_ir.specs.Program.{program_of}
use Rattle.split_model.specs.Shown.{is_replicated}
use Rattle.server_runtime.proofs.plan.followed_objects.Given as goal

abbrev pub invariant-loop-object : goal.invariant-loop-object
invariant-loop-object l = record {
  count : length l.marks.items ≡ l.object;
  exact : (o : ℕ) → o < l.object → get_or l.marks.items o false ≡ is_replicated (program_of l.f) l.s o;
}
