use Rattle.std.proofs.Common.{◌+◌, ◌*◌, length}
use Rattle.element_grammar.proofs.expressions.+expr.Given as goal

-- Behind its first token each part is called with fewer tokens. At the same place an expression with a mark behind it
-- begins with an expression, that with an operand that may be turned, and that with an operand.
abbrev pub decreases-primary : goal.decreases-primary
decreases-primary l = 4 * length l.tokens.now

abbrev pub decreases-unary : goal.decreases-unary
decreases-unary l = 4 * length l.tokens.now + 1

abbrev pub decreases-operated : goal.decreases-operated
decreases-operated l = 4 * length l.tokens.now

abbrev pub decreases-expression : goal.decreases-expression
decreases-expression l = 4 * length l.tokens.now + 2

abbrev pub decreases-expression_then : goal.decreases-expression_then
decreases-expression_then l = 4 * length l.tokens.now + 3

abbrev pub decreases-expression_between : goal.decreases-expression_between
decreases-expression_between l = 4 * length l.tokens.now

abbrev pub decreases-byte : goal.decreases-byte
decreases-byte l = 4 * length l.tokens.now + 1

abbrev pub decreases-cast : goal.decreases-cast
decreases-cast l = 4 * length l.tokens.now + 1

abbrev pub decreases-three_in_brackets : goal.decreases-three_in_brackets
decreases-three_in_brackets l = 4 * length l.tokens.now + 1
