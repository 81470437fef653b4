use Rattle.std.proofs.Common.{◌<◌, ◌+◌, ◌^◌, arith, sym, subst}
use Rattle.output_commit.specs.Spans.{total}
use Rattle.output_commit.proofs.KeptCommit.{begun_few, counted_known, less_by, visible_few}
use Rattle.output_commit.proofs.commit.Commit.acknowledge.Goals as goal

pub pass-step-requires-clause-few_commands : goal.pass-step-requires-clause-few_commands
pass-step-requires-clause-few_commands c = subst (λ l. total l < 2 ^ 32) (sym c.begun.ensures) (begun_few c.self.inside.batches c.self.invariant.kept)

pub overflow_add-self : goal.overflow_add-self
overflow_add-self c =
    let more = counted_known _ _ _ _ _ _ _ _ _ _ _ _ c.pass-step.result c.self.invariant (less_by c.self.invariant.acked_within c.if-self.false) c.begun.ensures
    c.pass-step.ensures.at c.pass-step.ensures.passed c.pass-step.ensures.stands c.shown_by.ensures in
    let seen = more.known_seen in
    let few = visible_few c.self.inside.batches (c.self.inside.acked + 1) c.self.invariant.kept in
    omega arith

pub invariant_of-self : goal.invariant_of-self
invariant_of-self c =
    counted_known _ _ _ _ _ _ _ _ _ _ _ _ c.pass-step.result c.self.invariant (less_by c.self.invariant.acked_within c.if-self.false) c.begun.ensures
    c.pass-step.ensures.at c.pass-step.ensures.passed c.pass-step.ensures.stands c.shown_by.ensures
