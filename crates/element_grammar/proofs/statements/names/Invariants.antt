use Rattle.std.proofs.Common.{◌≤◌, length, map}
use Rattle.element_lang.specs.Grammar.{AreNames}
use Rattle.element_tokens.specs.Tokens.{span_text, tokens_of}
use Rattle.element_grammar.specs.Machine.{names}
use Rattle.element_grammar.proofs.Loops.{Sofar}
use Rattle.element_grammar.proofs.statements.names.Given as goal

abbrev pub invariant-each : goal.invariant-each
invariant-each l =
    Sofar names AreNames (map (span_text l.text) l.found.items) (tokens_of l.text l.tokens) (tokens_of l.text l.left)
    × (length l.left ≤ length l.tokens)

abbrev pub decreases-each : goal.decreases-each
decreases-each l = length l.left
