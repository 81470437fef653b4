use Rattle.std.proofs.Common.{ap, ◌∙◌}
use Rattle.std.specs.Prelude.{is_some, nat_lt}
use Rattle.output_commit.specs.Batches.{last_of}
use Rattle.replay_contracts.specs.Replayer.{inputs_of}
use Rattle.schedule_replay.proofs.Framed.{some_sent}
use Rattle.schedule_replay.proofs.ReplayerStates.{shown_at}
use Rattle.schedule_replay.proofs.replayer.Replayer.sent_command.Goals as goal

pub returns-clause-last : goal.returns-clause-last
returns-clause-last g c = rw (← c.self.view_is) λ events calls st now is.
    let me = c.self.inside in
    let shown = shown_at (inputs_of me.job) events me.course (g.S.SwitchPort.seen me.port) me.steps calls st now is in
    c.sent_command.ensures ∙ (λ i. last_of (shown.batches i) (shown.sent i))

pub returns-clause-none : goal.returns-clause-none
returns-clause-none g c = rw (← c.self.view_is) λ events calls st now is.
    let me = c.self.inside in
    let shown = shown_at (inputs_of me.job) events me.course (g.S.SwitchPort.seen me.port) me.steps calls st now is in
    ap is_some c.sent_command.ensures ∙ (some_sent me.course.commit.sent me.course.commit.batches shown.sent_within ∙ ap (λ n. nat_lt 0 n) shown.sent)
