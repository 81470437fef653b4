use Rattle.std.proofs.Common.{◌≡◌, map, List, sym, ap, ◌∙◌}
use Rattle.element_lang.specs.View.{expr_tree}
use Rattle.element_lang.specs.declared.tree.Expr.{Expr}
use Rattle.element_chain.specs.Compose.{renamed}
use Rattle.chain_compose.proofs.RenamedExprs.{read_apply, apply_level}
use Rattle.chain_compose.proofs.expressions.+place_expr.Goals as goal

pub place_expr-returns-in_ok-place_exprs-in-Apply : goal.place_expr-returns-in_ok-place_exprs-in-Apply
place_expr-returns-in_ok-place_exprs-in-Apply t c =
    let made : List Expr = c.in_ok-place_exprs-in-Apply.field-0.items in
    let same : map expr_tree made ≡ map (λ (e : Expr). renamed c.args.port c.args.names.now (expr_tree e)) c.in-Apply.args.items
    = c.in_ok-place_exprs-in-Apply.ensures ∙ ap (map (λ (e : Expr). renamed c.args.port c.args.names.now (expr_tree e))) c.deref-in-Apply.ensures.value in
    let again = λ (e : Expr). renamed c.args.port c.args.names.now (expr_tree e) in
    apply_level c.in-Apply.op c.in-Apply.width c.in_ok-place_exprs-in-Apply.field-0
    ∙ read_apply c.in-Apply.op c.in-Apply.width c.args.port c.args.names.now made c.in-Apply.args.items same
    ∙ ap (renamed c.args.port c.args.names.now) (sym (apply_level c.in-Apply.op c.in-Apply.width c.in-Apply.args))
    ∙ ap again (sym c.in-Apply.is)
