use Rattle.std.proofs.Common.{ap, ◌∙◌}
use Rattle.std.specs.Prelude.{find, not}
use Rattle.replay_state.specs.Drain.{drain_order}
use Rattle.replay_contracts.specs.Replayer.{inputs_of}
use Rattle.replay_course.specs.Idle.{finds_nothing}
use Rattle.replay_course.proofs.DrainEvents.{picked_is}
use Rattle.replay_course.proofs.course.Course.next_event.Goals as goal

pub returns : goal.returns
returns c = λ calls st plain sound h.
    c.picked.ensures ∙ ap (λ n. find (λ event. not (finds_nothing n c.args.self.now event)) drain_order) c.len.ensures
    ∙ picked_is (inputs_of c.args.job.now) calls st c.args.self.now plain sound h
