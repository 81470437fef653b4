use Rattle.std.proofs.Common.{length}
use Rattle.flat_ir.specs.Program.{program_of}
use Rattle.split_model.specs.Split.{any_below}
use Rattle.split_model.specs.Marked.{is_read_at}
use Rattle.split_model.proofs.AnyBelow.{any_more}
use Rattle.split_model.proofs.ValueMarks.{same_test}
use Rattle.split_model.proofs.readers.read_by.Goals as goal

pub loop-i-preserved : goal.loop-i-preserved
loop-i-preserved c =
    let reads = is_read_at (program_of c.args.f.now) c.args.s.now c.args.reader in
    same_test (length c.args.f.now.code) _ _ c.mark_operands.new.set (λ v. any_more c.loop-i.i (λ i. reads i v))
    (c.mark_operands.ensures (length c.args.f.now.code) (λ v. any_below c.loop-i.i (λ i. reads i v)) c.loop-i.invariant)
