use Rattle.std.proofs.Common.{ap, sym, ◌∙◌}
use Rattle.replay_state.specs.Step.{applies}
use Rattle.replay_contracts.specs.Inputs.{setup_for, whole}
use Rattle.replay_contracts.specs.Replayer.{inputs_of}
use Rattle.lossy_replay.proofs.EventApplies.{release_applies}
use Rattle.lossy_replay.proofs.allowing.applies.Goals as goal

pub returns-in-Apply : goal.returns-in-Apply
returns-in-Apply c = λ calls st shown.
    c.may_apply.ensures c.args.job.now calls st shown ∙ ap (applies (setup_for (inputs_of c.args.job.now)) st) (sym c.in-Apply.is)

pub returns-in-Hold : goal.returns-in-Hold
returns-in-Hold c = λ calls st shown.
    let x = inputs_of c.args.job.now in
    c.may_release.ensures
    ∙ (release_applies (whole x) (setup_for x) calls st c.args.course.now c.in-Hold.j shown ∙ ap (applies (setup_for x) st) (sym c.in-Hold.is))
