use Rattle.std.proofs.Common.{◌<◌, ◌≤◌, ◌∙◌, List, sym, length, ap, subst}
use Rattle.replay_contracts.specs.Replayer.{inputs_of}
use Rattle.state_store.specs.declared.object.Row.{Row}
use Rattle.replay_course.specs.Telling.{ShowsParts}
use Rattle.replay_course.proofs.Rows.{is_loaded, has_replicated, rows_kept, shows_past, shows_more, shows_all, shows_same}
use Rattle.std.proofs.lemmas.Result.{err_from_is_err_and}
use Rattle.replay_course.proofs.LeftByErrors.{counts_as, fails_behind, fails_there, fails_with, goes_kept, keeps_more}
use Rattle.replay_course.proofs.report.switch_parts.Goals as goal
use Rattle.replay_course.proofs.report.switch_parts.Goals.{then-replicated+in_ok-rows+in_ok-push, else-replicated}
use Rattle.split_answers.proofs.Laws.{replicated_objects_are_declared-there}

pub visible-requires-clause-loaded : goal.visible-requires-clause-loaded
visible-requires-clause-loaded g c = is_loaded _ _ _ c.loop-number.number c.loop-number.parts.items c.requires.code c.loop-number.invariant

pub visible-requires-clause-replicated : goal.visible-requires-clause-replicated
visible-requires-clause-replicated g c =
    has_replicated _ _ _ c.loop-number.number c.loop-number.parts.items c.loop-number.number c.requires.code c.loop-number.invariant
    (replicated_objects_are_declared-there _ _ _ c.loop-number.number c.requires.split (sym c.if-replicated.ensures))

pub loop-number-preserved : goal.loop-number-preserved
loop-number-preserved g c =
    let less : c.loop-number.number < length c.args.job.now.flat.objects = subst (λ l. c.loop-number.number < length l) c.as_slice-number-end.ensures c.loop-number-test.true in
    elim c.if-replicated.branch [
      | then-replicated+in_ok-rows+in_ok-push w ↦
          shows_same _ _ _ _ _ _ _
          (shows_more _ c.loop-number.number c.loop-number.parts.items w.in_ok-rows.rows _ _ _ c.loop-number.invariant less (sym w.if-replicated.ensures) w.in_ok-rows.ensures)
          (ap (λ v. v.items) w.parts-is ∙ w.in_ok-push.ensures.items) (ap g.S.SwitchPort.seen w.port-is)
      | else-replicated w ↦
          shows_same _ _ _ _ _ _ _ (shows_past _ c.loop-number.number c.loop-number.parts.items _ _ c.loop-number.invariant less (sym w.if-replicated.ensures))
          (ap (λ v. v.items) w.parts-is) (ap g.S.SwitchPort.seen w.port-is)
    ]

pub returns-clause-shows : goal.returns-clause-shows
returns-clause-shows g c =
    let past : length c.args.job.now.flat.objects ≤ c.loop-number.number = subst (λ l. length l ≤ c.loop-number.number) c.as_slice-number-end.ensures c.loop-number-test.false in
    subst (λ p. ShowsParts (inputs_of c.args.job.now) (g.S.SwitchPort.seen c.args.port.now) (g.S.SwitchPort.seen c.loop-number.port) p) (sym c.from.ensures)
    (shows_all (inputs_of c.args.job.now) c.loop-number.number c.loop-number.parts.items (g.S.SwitchPort.seen c.args.port.now) (g.S.SwitchPort.seen c.loop-number.port) c.loop-number.invariant past)

pub returns-in_err-push-clause-fails : goal.returns-in_err-push-clause-fails
returns-in_err-push-clause-fails g c =
    let p = err_from_is_err_and c.from_residual-in_err-push.result c.from_residual-in_err-push.ensures.1 in
    let kept = keeps_more _ _ _ c.loop-number.invariant.kept (rows_kept _ _ _ _ c.in_ok-rows.ensures) in
    rw (p.1, p.2) (fails_there _ _ (goes_kept _ _ kept))

pub returns-in_err-rows-clause-fails : goal.returns-in_err-rows-clause-fails
returns-in_err-rows-clause-fails g c =
    let p = err_from_is_err_and c.from_residual.result c.from_residual.ensures.1 in
    let s = c.in_err-rows.ensures in
    rw (p.1, p.2) (fails_behind _ _ _ _ (goes_kept _ _ c.loop-number.invariant.kept)
    (fails_with _ _ _ _ _ (counts_as (List Row) c.in_err-rows.field-0.0) s.kept.code s.kept.told s.journal s.faults))
