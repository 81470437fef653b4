use Rattle.std.proofs.Common.{◌≡◌, map, take}
use Rattle.element_lang.specs.View.{expr_tree}
use Rattle.element_lang.proofs.+copy_expr.Given as goal

abbrev pub invariant-copy::copy_exprs-loop-expr : goal.invariant-copy::copy_exprs-loop-expr
invariant-copy::copy_exprs-loop-expr l = map expr_tree l.copies.items ≡ map expr_tree (take l.expr-index l.exprs)
