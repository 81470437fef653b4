use Rattle.std.proofs.Common.{◌≡◌, drop, map}
use Rattle.std.specs.List.{list_any}
use Rattle.element_lang.specs.Broken.{is_too_large_literal}
use Rattle.element_grammar.specs.Surface.{surface_literal}
use Rattle.element_rules.proofs.rows.any_too_large.Given as goal

abbrev pub invariant-loop-literal : goal.invariant-loop-literal
invariant-loop-literal l = list_any is_too_large_literal (map surface_literal (drop l.literal-index l.literals)) ≡ list_any is_too_large_literal
    (map surface_literal l.literals)
