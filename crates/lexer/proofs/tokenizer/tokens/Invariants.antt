use Rattle.std.proofs.Common.{length, map, ◌-◌}
use Rattle.lexer.specs.Tokens.{placed_of}
use Rattle.lexer.proofs.FoundTokens.{Found}
use Rattle.lexer.proofs.tokenizer.tokens.Given as goal

abbrev pub invariant-each : goal.invariant-each
invariant-each g l = Found g.T.Lexical.lexeme l.text (map (placed_of g.T.Lexical.meaning l.text) l.found.items) l.offset

abbrev pub decreases-each : goal.decreases-each
decreases-each g l = length l.text - l.offset
