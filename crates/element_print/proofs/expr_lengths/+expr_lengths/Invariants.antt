use Rattle.std.proofs.Common.{◌≡◌, ◌+◌, ◌-◌, ◌^◌, ◌≤◌, drop}
use Rattle.element_lang.specs.View.{expr_trees}
use Rattle.element_print.specs.Lengths.{capped, lengths_by, parts_length}
use Rattle.element_print.proofs.expr_lengths.+expr_lengths.Given as goal

-- the expressions that are left give what all give
abbrev pub invariant-parts_length-loop-e : goal.invariant-parts_length-loop-e
invariant-parts_length-loop-e l =
    (l.bytes ≤ 2 ^ 64 - 1) × (capped (l.bytes + parts_length (lengths_by l.names) l.place (expr_trees (drop l.e-index l.all)))
    ≡ capped (parts_length (lengths_by l.names) l.place (expr_trees l.all)))
