use Rattle.std.proofs.Common.{◌≤◌, length, sym, ap, ◌∙◌, arith}
use Rattle.state_store.specs.Store.{rows_of}
use Rattle.state_store.proofs.AtWork.{past_objects, no_rows}
use Rattle.state_store.proofs.store.Store.list.Goals as goal

pub returns-else-number-len : goal.returns-else-number-len
returns-else-number-len c =
    let past : length c.args.self.now ≤ c.args.object = omega (arith, c.len.ensures, c.self.inside.objects.ok.0, ap length c.self.view_is, c.if-number-len.false) in
    c.plain.ensures ∙ c.new.ensures ∙ sym no_rows ∙ ap rows_of (sym (past_objects c.args.self.now c.args.object past))
