use Rattle.std.proofs.Common.{◌≡◌, drop, map}
use Rattle.std.specs.List.{list_any}
use Rattle.element_lang.specs.Broken.{is_too_large_row}
use Rattle.element_grammar.specs.Surface.{surface_row}
use Rattle.element_rules.proofs.rows.any_row_too_large.Given as goal

abbrev pub invariant-loop-row : goal.invariant-loop-row
invariant-loop-row l = list_any is_too_large_row (map surface_row (drop l.row-index l.rows)) ≡ list_any is_too_large_row (map surface_row l.rows)
