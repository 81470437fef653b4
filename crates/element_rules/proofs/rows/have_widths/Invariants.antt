use Rattle.std.proofs.Common.{◌≡◌, drop, map}
use Rattle.element_lang.specs.Rules.{same_widths}
use Rattle.element_lang.specs.Surface as surface
use Rattle.element_grammar.specs.Surface.{surface_literal}
use Rattle.element_rules.proofs.rows.have_widths.Given as goal

abbrev pub invariant-loop-i : goal.invariant-loop-i
invariant-loop-i l =
    same_widths (map (λ (x : surface.Literal). x.width) (map surface_literal (drop l.i l.literals))) (drop l.i l.widths)
    ≡ same_widths (map (λ (x : surface.Literal). x.width) (map surface_literal l.literals)) l.widths
