use Rattle.std.proofs.Common.{◌≤◌, length}
use Rattle.flat_ir.specs.Program.{program_of}
use Rattle.dependence.specs.Posted.{IsPostFrom}
use Rattle.dependence.proofs.backward.post_closure_beside_guards.Given as goal

abbrev pub invariant-loop-i : goal.invariant-loop-i
invariant-loop-i l = record {
  inside : l.i ≤ length l.f.code;
  from : IsPostFrom (program_of l.f) l.carried l.i l.post;
}

abbrev pub decreases-loop-i : goal.decreases-loop-i
decreases-loop-i l = l.i
