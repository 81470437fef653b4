use Rattle.std.proofs.Common.{arith}
use Rattle.output_commit.proofs.SpannedBatches.{clear_at}
use Rattle.output_commit.proofs.span.command_at.Goals as goal

pub returns-else-place-count-4 : goal.returns-else-place-count-4
returns-else-place-count-4 c =
    let a = c.if-place-count-3.false in
    let b = c.if-place-count-4.false in
    let x = c.index-changes-place-else-place-count-4 in
    clear_at c.args.changes.now c.args.place x.result (omega arith) c.requires.within x.is
