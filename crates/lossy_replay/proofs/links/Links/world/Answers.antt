use Rattle.std.proofs.Common.{ℕ, ◌+◌, length, subst, sym, ◌∙◌}
use Rattle.std.proofs.lemmas.Result.{err_from_is_err_and}
use Rattle.replay_contracts.specs.Inputs.{setup_for, whole}
use Rattle.replay_contracts.specs.Replayer.{inputs_of}
use Rattle.lossy_replay.specs.Linking.{AreLinks, noted}
use Rattle.lossy_replay.proofs.Small.{last_named}
use Rattle.lossy_replay.proofs.WorldOn.{fails_behind, may_call_there, not_on, world_on}
use Rattle.lossy_replay.proofs.EventPerformed.{not_applied, not_let}
use Rattle.lossy_replay.proofs.links.Links.world.Goals as goal

pub returns-in_default-clause-ok : goal.returns-in_default-clause-ok
returns-in_default-clause-ok g c = λ schedule linking.
    let x = inputs_of c.args.job.now in
    let is = sym (c.let_by.ensures _ _ (whole x) linking.calls linking.st linking.links_are linking.shown) ∙ c.in_default.is in
    not_on x schedule c.args.event c.args.self.now c.args.course.now (g.S.SwitchPort.seen c.args.port.now) linking
    (λ w now. not_let (setup_for x) w linking.linked c.args.event linking.st now is)

pub returns-then-not-applies-clause-ok : goal.returns-then-not-applies-clause-ok
returns-then-not-applies-clause-ok g c = λ schedule linking.
    let x = inputs_of c.args.job.now in
    let is = sym (c.let_by.ensures _ _ (whole x) linking.calls linking.st linking.links_are linking.shown) ∙ c.in-Some.is in
    let fails = sym (c.applies.ensures linking.calls linking.st linking.shown) ∙ c.if-not-applies.true in
    not_on x schedule c.args.event c.args.self.now c.args.course.now (g.S.SwitchPort.seen c.args.port.now) linking
    (λ w now. not_applied (setup_for x) w linking.linked c.args.event c.in-Some.own linking.st now is fails)

pub step-requires-clause-may_call : goal.step-requires-clause-may_call
step-requires-clause-may_call g c =
    may_call_there (inputs_of c.args.job.now) c.args.self.now c.args.course.now
    (g.S.SwitchPort.seen c.args.port.now) c.requires

pub note-requires-clause-small : goal.note-requires-clause-small
note-requires-clause-small g c =
    last_named (inputs_of c.args.job.now) c.step.new.self (g.S.SwitchPort.seen c.step.new.port) c.in_ok-step.ensures.turned.going

pub returns-in_err-note-clause-fails : goal.returns-in_err-note-clause-fails
returns-in_err-note-clause-fails g c =
    let p = err_from_is_err_and c.from_residual-in_err-note.result c.from_residual-in_err-note.ensures.1 in
    rw (p.1, p.2) (fails_behind (inputs_of c.args.job.now) c.in-Some.own c.in_ok-step.field-0 c.args.self.now
    c.args.course.now c.step.new.self (g.S.SwitchPort.seen c.args.port.now) (g.S.SwitchPort.seen c.step.new.port) c.requires c.in_ok-step.ensures.turned)

pub returns-clause-ok : goal.returns-clause-ok
returns-clause-ok g c = λ schedule linking.
    let x = inputs_of c.args.job.now in
    let is = sym (c.let_by.ensures _ _ (whole x) linking.calls linking.st linking.links_are linking.shown) ∙ c.in-Some.is in
    let may = sym (c.applies.ensures linking.calls linking.st linking.shown) ∙ c.if-not-applies.false in
    let are = subst (λ (b : ℕ). AreLinks (length schedule + 1) (noted c.step.new.self b linking.linked c.args.event) c.note.new.self)
    (c.len-before.ensures ∙ c.args.course.now.up.ok.0) (c.in_ok-note.ensures (length schedule) linking.linked linking.links_are) in
    world_on x schedule c.args.event c.in-Some.own c.args.self.now c.note.new.self
    c.args.course.now c.step.new.self (g.S.SwitchPort.seen c.args.port.now) (g.S.SwitchPort.seen c.step.new.port) c.in_ok-step.field-0 linking
    c.in_ok-step.ensures.turned is may are
