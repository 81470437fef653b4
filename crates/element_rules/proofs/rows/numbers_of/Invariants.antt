use Rattle.std.proofs.Common.{◌≡◌, ◌++◌, drop, map}
use Rattle.element_lang.specs.Surface as surface
use Rattle.element_grammar.specs.Surface.{surface_literal}
use Rattle.element_rules.proofs.rows.numbers_of.Given as goal

abbrev pub invariant-loop-literal : goal.invariant-loop-literal
invariant-loop-literal l =
    l.numbers.items ++ map (λ (x : surface.Literal). x.value) (map surface_literal (drop l.literal-index l.literals))
    ≡ map (λ (x : surface.Literal). x.value) (map surface_literal l.literals)
