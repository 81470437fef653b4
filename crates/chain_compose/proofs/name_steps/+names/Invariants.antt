use Rattle.std.proofs.Common.{◌≡◌, ◌++◌, drop}
use Rattle.element_lang.specs.View.{expr_trees}
use Rattle.chain_compose.specs.Counts.{used_by_exprs}
use Rattle.chain_compose.specs.NamedFrom.{named}
use Rattle.chain_compose.proofs.name_steps.+names.Given as goal

abbrev pub invariant-put_exprs-loop-expr : goal.invariant-put_exprs-loop-expr
invariant-put_exprs-loop-expr l =
    l.out.items ++ named (used_by_exprs (expr_trees (drop l.expr-index l.exprs))) ≡ l.fn.out.items ++ named (used_by_exprs (expr_trees l.exprs))
