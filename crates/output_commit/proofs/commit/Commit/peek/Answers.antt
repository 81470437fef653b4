use Rattle.std.proofs.Common.{◌<◌, ◌^◌, ◌∙◌, arith, ap, cond, sym, subst, length, None}
use Rattle.std.specs.Prelude.{slice_get}
use Rattle.std.proofs.lemmas.Bool.{lt-ltb}
use Rattle.writeback_table.specs.Commands.{commands_of}
use Rattle.output_commit.specs.Batches.{commands_in}
use Rattle.output_commit.specs.Commit.{next}
use Rattle.output_commit.specs.Kept.{batches_in}
use Rattle.output_commit.specs.Spans.{batch_in, total}
use Rattle.output_commit.proofs.KeptCommit.{begun_few, command_is, length_in, less_by, next_stands, span_within}
use Rattle.output_commit.proofs.commit.Commit.peek.Goals as goal

pub pass-step-requires-clause-few_commands : goal.pass-step-requires-clause-few_commands
pass-step-requires-clause-few_commands c = subst (λ l. total l < 2 ^ 32) (sym c.begun.ensures) (begun_few c.self.inside.batches c.self.invariant.kept)

pub of-requires : goal.of-requires
of-requires c =
    let here = next_stands _ _ _ _ _ _ _ _ _ _ c.pass-step.result c.self.invariant (less_by c.self.invariant.done_within c.if-self.false) c.begun.ensures c.pass-step.ensures.stands in
    let within = (span_within c.self.inside.batches c.self.inside.done c.pass-step.result.0 c.pass-step.result.1 c.self.invariant.kept here).within in
    let same = ap length c.as_slice.ensures.value in
    omega arith

pub command_at-requires-clause-within : goal.command_at-requires-clause-within
command_at-requires-clause-within c =
    let here = next_stands _ _ _ _ _ _ _ _ _ _ c.pass-step.result c.self.invariant (less_by c.self.invariant.done_within c.if-self.false) c.begun.ensures c.pass-step.ensures.stands in
    let is = span_within c.self.inside.batches c.self.inside.done c.pass-step.result.0 c.pass-step.result.1 c.self.invariant.kept here in
    let step = is.step in
    let full = length_in c.self.inside.batches c.pass-step.result.0 is.within in
    let same = ap length (c.of.ensures ∙ ap (λ us. (batch_in us c.pass-step.result.0).updates) c.as_slice.ensures.value) in
    omega arith

pub returns : goal.returns
returns c =
    let less = less_by c.self.invariant.done_within c.if-self.false in
    let here = next_stands _ _ _ _ _ _ _ _ _ _ c.pass-step.result c.self.invariant less c.begun.ensures c.pass-step.ensures.stands in
    let is = command_is c.self.inside.batches c.self.inside.done c.pass-step.result.0 c.pass-step.result.1 c.self.invariant.kept here in
    let changes = c.of.ensures ∙ ap (λ us. (batch_in us c.pass-step.result.0).updates) c.as_slice.ensures.value in
    c.command_at.ensures ∙ ap (λ us. slice_get (commands_of us) c.pass-step.result.1) changes ∙ sym is
    ∙ sym (ap (λ b. cond b (slice_get (commands_in (batches_in c.self.inside.batches)) c.self.inside.done) None) (lt-ltb _ _ less))
    ∙ ap next c.self.view_is
