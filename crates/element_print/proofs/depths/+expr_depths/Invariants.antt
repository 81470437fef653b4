use Rattle.std.proofs.Common.{◌≡◌, ◌-◌, ◌^◌, ◌≤◌, max, drop}
use Rattle.element_lang.specs.View.{expr_trees}
use Rattle.element_print.specs.Lengths.{capped}
use Rattle.element_print.specs.Depths.{parts_depth}
use Rattle.element_print.proofs.depths.+expr_depths.Given as goal

-- the expressions that are left give what all give
abbrev pub invariant-parts_depth-loop-e : goal.invariant-parts_depth-loop-e
invariant-parts_depth-loop-e l =
    (l.deepest ≤ 2 ^ 64 - 1) × (capped (max l.deepest (parts_depth l.place (expr_trees (drop l.e-index l.all)))) ≡ capped (parts_depth l.place (expr_trees l.all)))
