use Rattle.std.proofs.Common.{◌≤◌, length, map}
use Rattle.element_tokens.specs.Tokens.{tokens_of}
use Rattle.element_grammar.specs.Surface.{surface_expr}
use Rattle.element_grammar.specs.Machine.{exprs}
use Rattle.element_grammar.proofs.Loops.{Sofar}
use Rattle.element_grammar.proofs.Operands.{are_exprs}
use Rattle.element_grammar.proofs.expressions.expressions.Given as goal

abbrev pub invariant-each : goal.invariant-each
invariant-each l =
    Sofar (exprs l.close) (are_exprs l.close) (map (surface_expr l.text) l.found.items) (tokens_of l.text l.tokens) (tokens_of l.text l.left)
    × (length l.left ≤ length l.tokens)

abbrev pub decreases-each : goal.decreases-each
decreases-each l = length l.left
