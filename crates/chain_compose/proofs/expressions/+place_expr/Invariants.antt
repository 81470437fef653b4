use Rattle.std.proofs.Common.{◌≡◌, map, take}
use Rattle.element_lang.specs.View.{expr_tree}
use Rattle.element_chain.specs.Compose.{renamed}
use Rattle.chain_compose.proofs.expressions.+place_expr.Given as goal

-- the expressions so far are placed
abbrev pub invariant-place_exprs-loop-expr : goal.invariant-place_exprs-loop-expr
invariant-place_exprs-loop-expr l = map expr_tree l.placed.items ≡ map (λ e. renamed l.port l.names (expr_tree e)) (take l.expr-index l.exprs)
