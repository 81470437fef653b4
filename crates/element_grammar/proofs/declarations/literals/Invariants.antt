use Rattle.std.proofs.Common.{◌≤◌, length, map}
use Rattle.element_lang.specs.Grammar.{AreLiterals}
use Rattle.element_tokens.specs.Tokens.{tokens_of}
use Rattle.element_grammar.specs.Surface.{surface_literal}
use Rattle.element_grammar.specs.Machine.{literals}
use Rattle.element_grammar.proofs.Loops.{Sofar}
use Rattle.element_grammar.proofs.declarations.literals.Given as goal

abbrev pub invariant-each : goal.invariant-each
invariant-each l =
    Sofar literals AreLiterals (map surface_literal l.found.items) (tokens_of l.text l.tokens) (tokens_of l.text l.left)
    × (length l.left ≤ length l.tokens)

abbrev pub decreases-each : goal.decreases-each
decreases-each l = length l.left
