use Rattle.std.proofs.Common.{◌≡◌, drop}
use Rattle.element_lang.specs.View.{expr_trees}
use Rattle.flatten.specs.Flatten as pure
use Rattle.flatten.specs.Sized.{AreSizedExprs}
use Rattle.flatten.specs.Pending.{in_front}
use Rattle.flatten.proofs.output.Output.+value.Given as goal

-- the expressions that are left give from here what all give from the start
abbrev pub invariant-values-loop-e : goal.invariant-values-loop-e
invariant-values-loop-e l = record {
  told : in_front l.ids.items (pure.flat_exprs l.frame.locals.items l.place l.w (expr_trees (drop l.e-index l.all)) l.self) ≡ pure.flat_exprs l.frame.locals.items l.place l.w (expr_trees l.all) l.fn.self;
  sized : AreSizedExprs l.frame.locals.items (expr_trees (drop l.e-index l.all));
}
