-- When a text has no list of tokens.
use Rattle.std.specs.Prelude.{◌≡◌, ℕ, List, Option}
use Rattle.lexer.specs.declared.token.Lexeme.{Lexeme}
use Rattle.lexer.specs.declared.token.Placed.{Placed}
use Rattle.lexer.specs.declared.tokenizer.TokenError.{TokenError}
use Rattle.lexer.specs.declared.tokenizer.TokenError.TheVariants.{NoToken, NoMemory}
use Rattle.lexer.specs.Tokens.{AreTokens, IsNoToken}

-- no token starts at this offset, where one has to: there is one such place, and the text has no list of tokens
pub record IsOnlyPlace {T : Type 0} (lexeme : List ℕ → Option (Lexeme T)) (text : List ℕ) (offset : ℕ) : Type 0 where
  pub here : IsNoToken lexeme text offset
  pub one : (other : ℕ) → IsNoToken lexeme text other → other ≡ offset
  pub none : (ts : List (Placed T)) → AreTokens lexeme text ts → ⊥

-- this error is right for the text
abbrev pub IsTokenError : {T : Type 0} → (List ℕ → Option (Lexeme T)) → List ℕ → TokenError → Type 0
IsTokenError lexeme text (NoToken offset) = IsOnlyPlace lexeme text offset
IsTokenError lexeme text NoMemory = Unit {0}
