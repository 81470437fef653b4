-- The tokens that the Rust values stand for.
use Rattle.std.specs.Prelude.{ℕ, List, map}
use Rattle.lexer.specs.Tokens as lexer
use Rattle.lexer.specs.declared.token.Placed.{Placed}
use Rattle.element_lang.specs.Token as lang
use Rattle.element_tokens.specs.declared.token.Token.{Token}
use Rattle.element_tokens.specs.declared.token.Token.TheVariants.{Fixed, Number, Name, Field}
pub use Rattle.lexer.specs.Tokens.{span_text}

abbrev pub token_of : List ℕ → Token → lang.Token
token_of text (Fixed m) = lang.fixed m
token_of text (Number n) = lang.number n
token_of text (Name span) = lang.name (lexer.span_text text span)
token_of text (Field f) = lang.field f

abbrev pub PlacedToken : Type 0
PlacedToken = Placed Token

abbrev pub placed_of : List ℕ → PlacedToken → lang.Placed
placed_of = lexer.placed_of token_of

-- the tokens of a text, without their offsets
abbrev pub tokens_of : List ℕ → List PlacedToken → List lang.Token
tokens_of text ps = map (λ p. token_of text p.token) ps
