use Rattle.std.proofs.Common.{◌≡◌, take, map}
use Rattle.element_lang.specs.Surface as surface
use Rattle.element_grammar.specs.Surface.{surface_literal}
use Rattle.element_text.proofs.objects.numbers_of.Given as goal

abbrev pub invariant-loop-literal : goal.invariant-loop-literal
invariant-loop-literal l = l.numbers ≡ map (λ (x : surface.Literal). x.value) (map surface_literal (take l.literal-index l.literals))
