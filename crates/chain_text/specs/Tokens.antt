-- The tokens that the Rust values stand for.
use Rattle.std.specs.Prelude.{ℕ, List, map}
use Rattle.lexer.specs.Tokens as lexer
use Rattle.lexer.specs.declared.token.Placed.{Placed}
use Rattle.chain_text.specs.Token as chain
use Rattle.chain_text.specs.declared.token.Token.{Token}
use Rattle.chain_text.specs.declared.token.Token.TheVariants.{Fixed, Number, Name}

abbrev pub token_of : List ℕ → Token → chain.Token
token_of text (Fixed m) = chain.fixed m
token_of text (Number n) = chain.number n
token_of text (Name span) = chain.name (lexer.span_text text span)

abbrev pub PlacedToken : Type 0
PlacedToken = Placed Token

abbrev pub placed_of : List ℕ → PlacedToken → chain.Placed
placed_of = lexer.placed_of token_of

-- the tokens of a text, without their offsets
abbrev pub tokens_of : List ℕ → List PlacedToken → List chain.Token
tokens_of text ps = map (λ p. token_of text p.token) ps
