use Rattle.std.proofs.Common.{◌≡◌, drop, map}
use Rattle.std.specs.List.{list_all}
use Rattle.element_lang.specs.Rules.{is_width}
use Rattle.element_lang.specs.Surface as surface
use Rattle.element_grammar.specs.Surface.{surface_literal}
use Rattle.element_rules.proofs.rows.have_good_widths.Given as goal

abbrev pub invariant-loop-literal : goal.invariant-loop-literal
invariant-loop-literal l =
    list_all is_width (map (λ (x : surface.Literal). x.width) (map surface_literal (drop l.literal-index l.literals)))
    ≡ list_all is_width (map (λ (x : surface.Literal). x.width) (map surface_literal l.literals))
