use Rattle.std.proofs.Common.{◌≤◌, length}
use Rattle.element_lang.specs.Grammar.{AreWidths}
use Rattle.element_tokens.specs.Tokens.{tokens_of}
use Rattle.element_grammar.specs.Machine.{widths}
use Rattle.element_grammar.proofs.Loops.{Sofar}
use Rattle.element_grammar.proofs.declarations.widths.Given as goal

abbrev pub invariant-each : goal.invariant-each
invariant-each l = Sofar widths AreWidths l.found.items (tokens_of l.text l.tokens) (tokens_of l.text l.left) × (length l.left ≤ length l.tokens)

abbrev pub decreases-each : goal.decreases-each
decreases-each l = length l.left
