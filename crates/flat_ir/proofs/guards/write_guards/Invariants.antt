use Rattle.std.proofs.Common.{◌≤◌, length}
use Rattle.flat_ir.specs.Program.{program_of}
use Rattle.flat_ir.specs.Guarding.{AreGuardsFrom}
use Rattle.flat_ir.proofs.guards.write_guards.Given as goal

abbrev pub invariant-loop-b : goal.invariant-loop-b
invariant-loop-b l = record {
  inside : l.b ≤ length l.f.blocks;
  from : AreGuardsFrom (program_of l.f) l.b l.covering.items l.found.items;
}

abbrev pub decreases-loop-b : goal.decreases-loop-b
decreases-loop-b l = l.b
