use Rattle.std.proofs.Common.{◌<◌, ◌^◌, ◌∙◌, ap, sym, subst}
use Rattle.output_commit.specs.Commit.{bit}
use Rattle.output_commit.specs.Spans.{IsIn, bit_at, total}
use Rattle.output_commit.proofs.Bits.{bit_placed}
use Rattle.output_commit.proofs.KeptCommit.{begun_few}
use Rattle.output_commit.proofs.commit.Commit.bit.Goals as goal

pub bit-requires-clause-at : goal.bit-requires-clause-at
bit-requires-clause-at c = subst (λ l. IsIn l c.self.inside.applied) (sym c.begun.ensures) c.self.invariant.applied_at.within

pub bit-requires-clause-few_commands : goal.bit-requires-clause-few_commands
bit-requires-clause-few_commands c = subst (λ l. total l < 2 ^ 32) (sym c.begun.ensures) (begun_few c.self.inside.batches c.self.invariant.kept)

pub returns : goal.returns
returns c =
    c.bit.ensures ∙ ap (λ l. bit_at l c.self.inside.applied) c.begun.ensures
    ∙ bit_placed c.self.inside.batches c.self.inside.sent c.self.inside.done c.self.inside.acked c.self.inside.left c.self.inside.applied c.self.inside.known c.self.inside.visible c.self.inside.acknowledged c.self.invariant
    ∙ ap bit c.self.view_is
