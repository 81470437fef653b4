use Rattle.std.proofs.Common.{◌≡◌, ◌≤◌, ◌+◌, [], ap, arith}
use Rattle.replay_contracts.specs.Replayer.{Replayer as Seen}
use Rattle.replayer_tests.proofs.HadFailed.{by_failed}
use Rattle.replayer_tests.proofs.translator_tests.steps_so.Goals as goal

pub returns-in-Ok : goal.returns-in-Ok
returns-in-Ok g c =
    let old = c.args.replayer.now in
    let new = c.step.new.self in
    by_failed old.failed (new.steps ≤ old.steps + 1)
    (λ none. let h : new.steps ≡ old.steps + 1 = (c.in-Ok.ensures.stepped c.stands.ensures.events (c.stands.ensures.performed none)).steps in
    omega arith)
    (λ e some. let h = (c.in-Ok.ensures.repeats e some).0 in cc)

pub returns-in-Err : goal.returns-in-Err
returns-in-Err g c =
    let old = c.args.replayer.now in
    let new = c.step.new.self in
    by_failed old.failed (new.steps ≤ old.steps + 1)
    (λ none. let h : new.steps ≡ old.steps = (c.in-Err.ensures.fails [] none).steps in omega arith)
    (λ e some. let h : new.steps ≡ old.steps = ap (λ (r : Seen). r.steps) ((c.in-Err.ensures.repeats e some).1 []).same in omega arith)
