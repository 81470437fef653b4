use Rattle.chain_compose.proofs.NamedPut.{exprs_more}
use Rattle.chain_compose.proofs.name_steps.+names.Goals as goal

pub put_exprs-loop-expr-preserved : goal.put_exprs-loop-expr-preserved
put_exprs-loop-expr-preserved t c =
    exprs_more c.args.exprs.now c.loop-expr.expr-index c.expr-item.result c.loop-expr.out.items c.put_expr.new.out.items _ c.loop-expr-test.true c.expr-item.is c.in_ok-put_expr.ensures c.loop-expr.invariant
