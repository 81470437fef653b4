use Rattle.std.proofs.Common.{◌≤◌, length, is_some, sym, ap, ◌∙◌, arith}
use Rattle.state_store.specs.Store.{look}
use Rattle.state_store.proofs.AtWork.{past_objects, no_look}
use Rattle.state_store.proofs.store.Store.del.Goals as goal

pub returns-else-number-len-clause-was : goal.returns-else-number-len-clause-was
returns-else-number-len-clause-was c =
    let past : length c.args.self.now ≤ c.args.object = omega (arith, c.len.ensures, c.self.inside.objects.ok.0, ap length c.self.view_is, c.if-number-len.false) in
    ap is_some (sym (no_look c.args.key.now)) ∙ ap (λ o. is_some (look o c.args.key.now)) (sym (past_objects c.args.self.now c.args.object past))
