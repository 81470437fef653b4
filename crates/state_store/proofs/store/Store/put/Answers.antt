use Rattle.std.proofs.Common.{◌≤◌, length, sym, ap, ◌∙◌, arith}
use Rattle.state_store.specs.Store.{put_answer}
use Rattle.state_store.proofs.AtWork.{past_objects, no_answer}
use Rattle.state_store.proofs.store.Store.put.Goals as goal

pub returns-else-number-len-clause-answer : goal.returns-else-number-len-clause-answer
returns-else-number-len-clause-answer c =
    let past : length c.args.self.now ≤ c.args.object = omega (arith, c.len.ensures, c.self.inside.objects.ok.0, ap length c.self.view_is, c.if-number-len.false) in
    sym (no_answer c.args.key.now) ∙ ap (λ o. put_answer o c.args.key.now) (sym (past_objects c.args.self.now c.args.object past))
