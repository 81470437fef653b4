use Rattle.flat_ir.specs.Program.{program_of}
use Rattle.split_validate.specs.Flaws.{ArePostGuarded}
use Rattle.split_validate.proofs.rules.post_guarded.Given as goal

-- the blocks up to this one are marked
abbrev pub invariant-loop-k : goal.invariant-loop-k
invariant-loop-k l = ArePostGuarded (program_of l.f) l.s l.k l.marks.items
