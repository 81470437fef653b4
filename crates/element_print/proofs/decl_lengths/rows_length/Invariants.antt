use Rattle.std.proofs.Common.{◌≡◌, ◌+◌, ◌-◌, ◌^◌, ◌≤◌, drop}
use Rattle.element_print.specs.Lengths.{capped, rows_length}
use Rattle.element_print.proofs.decl_lengths.rows_length.Given as goal

-- the rows that are left give what all give
abbrev pub invariant-loop-place : goal.invariant-loop-place
invariant-loop-place l =
    (l.bytes ≤ 2 ^ 64 - 1) × (capped (l.bytes + rows_length l.keys l.values (drop l.place l.rows)) ≡ capped (rows_length l.keys l.values l.rows))
