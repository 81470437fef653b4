use Rattle.std.proofs.Common.{◌≤◌, length, map}
use Rattle.element_lang.specs.Grammar.{AreRows}
use Rattle.element_tokens.specs.Tokens.{tokens_of}
use Rattle.element_grammar.specs.Surface.{surface_row}
use Rattle.element_grammar.specs.Machine.{rows}
use Rattle.element_grammar.proofs.Loops.{Sofar}
use Rattle.element_grammar.proofs.declarations.rows.Given as goal

abbrev pub invariant-each : goal.invariant-each
invariant-each l =
    Sofar rows AreRows (map surface_row l.found.items) (tokens_of l.text l.tokens) (tokens_of l.text l.left)
    × (length l.left ≤ length l.tokens)

abbrev pub decreases-each : goal.decreases-each
decreases-each l = length l.left
