use Rattle.std.proofs.Common.{length}
use Rattle.flat_ir.specs.Program.{program_of}
use Rattle.split_model.specs.Split.{any_below}
use Rattle.split_model.specs.Marked.{AreMarked, is_read_at}
use Rattle.split_model.proofs.readers.read_by.Given as goal

abbrev pub invariant-loop-i : goal.invariant-loop-i
invariant-loop-i l = AreMarked (length l.f.code) (λ v. any_below l.i (λ i. is_read_at (program_of l.f) l.s l.reader i v)) l.set
