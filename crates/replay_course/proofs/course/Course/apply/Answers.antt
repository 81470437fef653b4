use Rattle.std.proofs.Common.{sym, subst}
use Rattle.std.specs.Prelude.{IfSome}
use Rattle.switch_ir.specs.Port.{IsCommandOf}
use Rattle.replay_course.proofs.EventsTaken.{apply_turned, next_named, no_command_turned}
use Rattle.std.proofs.lemmas.Result.{err_from_is_err_and}
use Rattle.replay_course.proofs.LeftByErrors.{counts_as, fails_with}
use Rattle.replay_course.proofs.Room.{is_ready}
use Rattle.output_commit.specs.Commit.{next as next_command}
use Rattle.replay_course.proofs.course.Course.apply.Goals as goal

pub command-requires-clause-named : goal.command-requires-clause-named
command-requires-clause-named g c =
    let me = c.args.self.now in
    let here = (is_ready me.passes (next_command me.commit) c.in-Some.command (sym c.in-Some.ensures.next)).0 in
    subst (λ o. IfSome o (λ code. IsCommandOf code c.in-Some.command)) (sym c.requires.going.loaded)
    (next_named _ me c.in-Some.command c.requires.going.sound (sym here))

pub command-requires-clause-room : goal.command-requires-clause-room
command-requires-clause-room g c = c.requires.may_call.room c.in-Some.command (sym c.in-Some.ensures.next)

pub command-requires-clause-waits : goal.command-requires-clause-waits
command-requires-clause-waits g c = c.requires.may_call.waits c.in-Some.command (sym c.in-Some.ensures.next)

pub returns-in_default-clause-turned : goal.returns-in_default-clause-turned
returns-in_default-clause-turned g c =
    let none = c.in_default.ensures in
    no_command_turned _ c.args.self.now _ _ c.requires.going none.stepped none.asked none.shown none.sound (none.unapplied _ c.requires.going.sound) none.counted

pub returns-clause-turned : goal.returns-clause-turned
returns-clause-turned g c =
    let some = c.in-Some.ensures in
    let me = c.args.self.now in
    let here = (is_ready me.passes (next_command me.commit) c.in-Some.command (sym some.next)).0 in
    apply_turned _ me _ _ _ c.in-Some.command c.requires.going (next_named _ me c.in-Some.command c.requires.going.sound (sym here)) c.in_ok-command.ensures
    c.in_ok-command.ensures.spare (some.sound _ c.requires.going.sound) (some.unapplied _ c.requires.going.sound) some.counted some.stepped some.asked some.shown

pub returns-in_err-command-clause-fails : goal.returns-in_err-command-clause-fails
returns-in_err-command-clause-fails g c =
    let p = err_from_is_err_and c.from_residual.result c.from_residual.ensures.1 in
    let s = c.in_err-command.ensures in
    rw (p.1, p.2) (fails_with _ _ _ _ _ (counts_as (Unit {0}) c.in_err-command.field-0.0) s.code s.told s.journal s.faults)
