use Rattle.std.proofs.Common.{◌≡◌, drop, map}
use Rattle.std.specs.List.{list_all}
use Rattle.element_lang.specs.Rules.{is_width}
use Rattle.element_lang.specs.Broken.{literal_widths}
use Rattle.element_grammar.specs.Surface.{surface_row}
use Rattle.element_rules.proofs.rows.rows_have_good_widths.Given as goal

abbrev pub invariant-loop-row : goal.invariant-loop-row
invariant-loop-row l = list_all is_width (literal_widths (map surface_row (drop l.row-index l.rows))) ≡ list_all is_width
    (literal_widths (map surface_row l.rows))
