use Rattle.std.proofs.Common.{◌≡◌, ◌+◌, ◌-◌, ◌^◌, ◌≤◌, drop}
use Rattle.element_lang.specs.View.{body_tree}
use Rattle.element_print.specs.Lengths.{capped, lengths_by, body_length}
use Rattle.element_print.proofs.lengths.+stmt_lengths.Given as goal

-- the statements that are left give what all give
abbrev pub invariant-body_length-loop-stmt : goal.invariant-body_length-loop-stmt
invariant-body_length-loop-stmt l =
    (l.bytes ≤ 2 ^ 64 - 1) × (capped (l.bytes + body_length (lengths_by l.names) (body_tree (drop l.stmt-index l.body)))
    ≡ capped (body_length (lengths_by l.names) (body_tree l.body)))
