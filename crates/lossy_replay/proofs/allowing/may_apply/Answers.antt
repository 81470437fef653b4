use Rattle.std.proofs.Common.{sym, ◌∙◌}
use Rattle.replay_contracts.specs.Inputs.{setup_for, whole}
use Rattle.replay_contracts.specs.Replayer.{inputs_of}
use Rattle.lossy_replay.proofs.EventApplies.{none_applies, some_applies}
use Rattle.lossy_replay.proofs.allowing.may_apply.Goals as goal

pub returns-in-Some : goal.returns-in-Some
returns-in-Some c = λ job calls st shown.
    some_applies (whole (inputs_of job)) (setup_for (inputs_of job)) calls st c.args.course.now c.in-Some.command c.are_disturbed.result shown
    (sym c.peek.ensures ∙ c.in-Some.is) c.are_disturbed.ensures

pub returns-in-None : goal.returns-in-None
returns-in-None c = λ job calls st shown.
    none_applies (whole (inputs_of job)) (setup_for (inputs_of job)) calls st c.args.course.now shown (sym c.peek.ensures ∙ c.in-None.is)
