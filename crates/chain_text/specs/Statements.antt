-- The statements that the Rust values stand for.
use Rattle.std.specs.Prelude.{ℕ, Bool, true, false, List, map, slice_get, Option, Some, None}
use Rattle.lexer.specs.declared.token.Span.{Span}
use Rattle.chain_text.specs.declared.token.Token.{Token}
use Rattle.chain_text.specs.declared.token.Token.TheVariants.{Number, Name}
use Rattle.chain_text.specs.Tokens.{PlacedToken as Placed}
use Rattle.lexer.specs.Tokens.{span_text}
use Rattle.chain_text.specs.Grammar as chain
use Rattle.chain_text.specs.declared.statement.Statement.{Statement}
use Rattle.chain_text.specs.declared.statement.Statement.TheVariants.{Declares, Wires}

abbrev pub statement_of : List ℕ → Statement → chain.Statement
statement_of text (Declares element class) = chain.declares (span_text text element) (span_text text class)
statement_of text (Wires from output input to) = chain.wires (span_text text from) output input (span_text text to)

abbrev pub statements_of : List ℕ → List Statement → List chain.Statement
statements_of text ss = map (statement_of text) ss

abbrev pub is_declaration : Statement → Bool
is_declaration (Declares element class) = true
is_declaration (Wires from output input to) = false

-- the span of a name
abbrev pub name_span : Token → Span
name_span (Name span) = span
name_span _ = record { offset = 0; len = 0 }

abbrev pub placed_span : Option Placed → Span
placed_span None = record { offset = 0; len = 0 }
placed_span (Some p) = name_span p.token

-- the name at a place
abbrev pub span_at : List Placed → ℕ → Span
span_at ps place = placed_span (slice_get ps place)

abbrev pub number_value : Token → ℕ
number_value (Number n) = n
number_value _ = 0

abbrev pub placed_number : Option Placed → ℕ
placed_number None = 0
placed_number (Some p) = number_value p.token

-- the number at a place
abbrev pub value_at : List Placed → ℕ → ℕ
value_at ps place = placed_number (slice_get ps place)
