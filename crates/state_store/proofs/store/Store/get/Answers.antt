use Rattle.std.proofs.Common.{◌≤◌, length, is_some, sym, ap, ◌∙◌, arith}
use Rattle.state_store.specs.Store.{look, looked_up}
use Rattle.state_store.proofs.AtWork.{past_objects, no_look, no_values}
use Rattle.state_store.proofs.store.Store.get.Goals as goal

pub returns-else-number-len-clause-found : goal.returns-else-number-len-clause-found
returns-else-number-len-clause-found c =
    let past : length c.args.self.now ≤ c.args.object = omega (arith, c.len.ensures, c.self.inside.objects.ok.0, ap length c.self.view_is, c.if-number-len.false) in
    ap is_some (sym (no_look c.args.key.now)) ∙ ap (λ o. is_some (look o c.args.key.now)) (sym (past_objects c.args.self.now c.args.object past))

pub returns-else-number-len-clause-values : goal.returns-else-number-len-clause-values
returns-else-number-len-clause-values c =
    let past : length c.args.self.now ≤ c.args.object = omega (arith, c.len.ensures, c.self.inside.objects.ok.0, ap length c.self.view_is, c.if-number-len.false) in
    c.new.ensures ∙ sym (no_values c.args.key.now) ∙ ap (λ o. looked_up o c.args.key.now) (sym (past_objects c.args.self.now c.args.object past))
