use Rattle.std.proofs.Common.{[], sym, ◌∙◌}
use Rattle.std.proofs.lemmas.List.{append-nil}
use Rattle.std.proofs.lemmas.Result.{err_from_is_err_and}
use Rattle.replay_course.proofs.LeftByErrors.{counts_as, fails_with}
use Rattle.replay_course.proofs.serving.reserve.Goals as goal

pub returns-in_err-room-clause-fails : goal.returns-in_err-room-clause-fails
returns-in_err-room-clause-fails g c =
    let p = err_from_is_err_and c.from_residual.result c.from_residual.ensures.1 in
    let s = c.in_err-room.ensures in
    rw (p.1, p.2) (fails_with _ _ [] _ _ (counts_as (Unit {0}) c.in_err-room.field-0.0) s.kept.code s.kept.told (s.room ∙ sym (append-nil _)) s.faults)
