use Rattle.std.proofs.Common.{◌≡◌, ◌+◌, ◌-◌, ◌^◌, ◌≤◌, drop}
use Rattle.element_print.specs.Lengths.{capped, lengths_by, names_length}
use Rattle.element_print.proofs.lengths.names_length.Given as goal

-- the names that are left give what all give
abbrev pub invariant-loop-local : goal.invariant-loop-local
invariant-loop-local l =
    (l.bytes ≤ 2 ^ 64 - 1) × (capped (l.bytes + names_length (lengths_by l.names) (drop l.local-index l.locals))
    ≡ capped (names_length (lengths_by l.names) l.locals))
