use Rattle.std.proofs.Common.{arith, ap, length}
use Rattle.output_commit.specs.Commit.{commands}
use Rattle.output_commit.proofs.KeptCommit.{sent_few}
use Rattle.output_commit.proofs.commit.Commit.unapplied.Goals as goal

pub overflow_sub-result : goal.overflow_sub-result
overflow_sub-result c =
    let i = c.self.invariant in
    let few = sent_few c.self.inside.batches c.self.inside.sent c.self.inside.left i.kept i.all in
    let e = ap (λ k. length (commands k)) c.self.view_is in
    let d = i.done_within in
    let n = c.commands.ensures in
    omega arith
