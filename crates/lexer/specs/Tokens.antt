-- The tokens of a text, in a language that says by `lexeme` which token stands in front of some bytes.
use Rattle.std.specs.Prelude.{◌≡◌, ℕ, ◌+◌, false, List, [], ◌∷◌, length, take, drop, Option, Some, None}
use Rattle.lexer.specs.declared.token.Span.{Span}
use Rattle.lexer.specs.declared.token.Lexeme.{Lexeme}
use Rattle.lexer.specs.declared.token.Placed.{Placed}
use Rattle.lexer.specs.Bytes.{gap}

-- the bytes of a span of the text
abbrev pub span_text : List ℕ → Span → List ℕ
span_text text span = take span.len (drop span.offset text)

-- what a token of the text means, at its place
abbrev pub lexeme_of : {T S : Type 0} → (List ℕ → T → S) → List ℕ → Lexeme T → Lexeme S
lexeme_of meaning text x = record { token = meaning text x.token; len = x.len }

abbrev pub placed_of : {T S : Type 0} → (List ℕ → T → S) → List ℕ → Placed T → Placed S
placed_of meaning text p = record { token = meaning text p.token; offset = p.offset }

abbrev pub sized_lexeme : {T : Type 0} → ℕ → Option T → Option (Lexeme T)
sized_lexeme len None = None
sized_lexeme len (Some t) = Some (record { token = t; len = len })

-- The text from `offset` on has these tokens, and then `rest` at `stop`, where blanks and comments have been passed.
abbrev pub HasTokens : {T : Type 0} → (List ℕ → Option (Lexeme T)) → ℕ → List ℕ → List (Placed T) → ℕ → List ℕ → Type 0
HasTokens lexeme offset bs [] stop rest = (stop ≡ offset + gap false bs) × (rest ≡ drop (gap false bs) bs)
HasTokens {T = T} lexeme offset bs (t ∷ ts) stop rest =
    let n = gap false bs in
    (x : Lexeme T) × (lexeme (drop n bs) ≡ Some x) × (t ≡ record { token = x.token; offset = offset + n })
    × HasTokens lexeme (offset + n + x.len) (drop x.len (drop n bs)) ts stop rest

-- all of the text is these tokens
abbrev pub AreTokens : {T : Type 0} → (List ℕ → Option (Lexeme T)) → List ℕ → List (Placed T) → Type 0
AreTokens lexeme text ts = HasTokens lexeme 0 text ts (length text) []

-- behind some tokens stands a byte at which no token starts
abbrev pub IsNoToken : {T : Type 0} → (List ℕ → Option (Lexeme T)) → List ℕ → ℕ → Type 0
IsNoToken {T = T} lexeme text offset = (ts : List (Placed T)) × (b : ℕ) × (rest : List ℕ)
    × HasTokens lexeme 0 text ts offset (b ∷ rest) × (lexeme (b ∷ rest) ≡ None)
