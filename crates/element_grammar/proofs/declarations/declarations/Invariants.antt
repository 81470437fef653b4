use Rattle.std.proofs.Common.{◌≤◌, length, map}
use Rattle.element_tokens.specs.Tokens.{tokens_of}
use Rattle.element_grammar.specs.Surface.{surface_object}
use Rattle.element_grammar.specs.Refused.{FoundObjects}
use Rattle.element_grammar.proofs.declarations.declarations.Given as goal

abbrev pub invariant-objects : goal.invariant-objects
invariant-objects l =
    FoundObjects (map (surface_object l.text) l.objects.items) (tokens_of l.text l.tokens) (tokens_of l.text l.left)
    × (length l.left ≤ length l.tokens)

abbrev pub decreases-objects : goal.decreases-objects
decreases-objects l = length l.left
