use Rattle.std.proofs.Common.{◌≡◌, ◌+◌, ◌-◌, ◌^◌, ◌≤◌, drop, length}
use Rattle.element_lang.specs.View.{expr_trees}
use Rattle.element_print.specs.Lengths.{capped}
use Rattle.chain_compose.specs.Counts.{used_by_exprs}
use Rattle.chain_compose.proofs.heads.+used.Given as goal

abbrev pub invariant-used_by_exprs-loop-expr : goal.invariant-used_by_exprs-loop-expr
invariant-used_by_exprs-loop-expr l =
    (l.total ≤ 2 ^ 64 - 1) × (capped (l.total + length (used_by_exprs (expr_trees (drop l.expr-index l.exprs)))) ≡ capped (length (used_by_exprs (expr_trees l.exprs))))
