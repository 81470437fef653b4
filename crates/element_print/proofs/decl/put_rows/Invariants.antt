use Rattle.std.proofs.Common.{◌≡◌, ◌++◌, map, drop}
use Rattle.element_lang.specs.Surface.{named_row}
use Rattle.element_print.specs.Printed.{rows_tokens}
use Rattle.element_print.specs.Spaced.{spaced}
use Rattle.element_print.proofs.decl.put_rows.Given as goal

-- the rows that are left give what all gave at the start
abbrev pub invariant-loop-place : goal.invariant-loop-place
invariant-loop-place l =
    l.out ++ spaced (rows_tokens (map (named_row l.keys l.values) (drop l.place l.rows)))
    ≡ l.initial.out ++ spaced (rows_tokens (map (named_row l.keys l.values) l.rows))
