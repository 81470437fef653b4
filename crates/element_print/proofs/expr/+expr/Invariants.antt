use Rattle.std.proofs.Common.{◌≡◌, ◌++◌, drop}
use Rattle.element_lang.specs.Surface.{named_exprs}
use Rattle.element_lang.specs.View.{tree, expr_trees}
use Rattle.element_print.specs.Printed.{parts}
use Rattle.element_print.specs.Spaced.{spaced, separated}
use Rattle.element_print.proofs.expr.+expr.Given as goal

-- the expressions that are left give what all gave at the start
abbrev pub invariant-put_listed-loop-e : goal.invariant-put_listed-loop-e
invariant-put_listed-loop-e l =
    l.out ++ spaced (separated l.behind l.mark (parts l.place (named_exprs (tree l.m) (expr_trees (drop l.e-index l.all)))))
    ≡ l.initial.out ++ spaced (separated l.before l.mark (parts l.place (named_exprs (tree l.m) (expr_trees l.all))))
