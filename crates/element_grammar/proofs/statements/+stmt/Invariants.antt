use Rattle.std.proofs.Common.{◌+◌, ◌*◌, ◌≤◌, length, map}
use Rattle.element_tokens.specs.Tokens.{tokens_of}
use Rattle.element_grammar.specs.Surface.{placed_stmt}
use Rattle.element_grammar.specs.Machine.{body}
use Rattle.element_grammar.proofs.Loops.{Sofar}
use Rattle.element_grammar.proofs.StatementPieces.{is_body}
use Rattle.element_grammar.proofs.statements.+stmt.Given as goal

-- A block begins with a statement at the same place, and all else is called with fewer tokens.
abbrev pub decreases-statement : goal.decreases-statement
decreases-statement l = 2 * length l.tokens.now

abbrev pub decreases-choice : goal.decreases-choice
decreases-choice l = 2 * length l.tokens.now + 1

abbrev pub decreases-repeat : goal.decreases-repeat
decreases-repeat l = 2 * length l.tokens.now + 1

abbrev pub decreases-otherwise : goal.decreases-otherwise
decreases-otherwise l = 2 * length l.tokens.now + 1

abbrev pub decreases-block : goal.decreases-block
decreases-block l = 2 * length l.tokens.now + 1

abbrev pub invariant-block-statements : goal.invariant-block-statements
invariant-block-statements l =
    Sofar body is_body (map (placed_stmt l.text) l.body.items) (tokens_of l.text l.tokens) (tokens_of l.text l.left)
    × (length l.left ≤ length l.tokens)

abbrev pub decreases-block-statements : goal.decreases-block-statements
decreases-block-statements l = length l.left
