-- The tokens of a source.
use Rattle.std.specs.Prelude.{◌≡◌, ℕ, ◌+◌, ◌-◌, ◌*◌, ◌^◌, Bool, ◌&&◌, ◌||◌, List, [], ◌∷◌}
use Rattle.std.specs.Prelude.{length, drop}
use Rattle.std.specs.Prelude.{Option, Some, None, nat_eq, nat_lt, nat_le, ◌==◌, if◌then◌else◌, codes, take_while}
use Rattle.std.specs.List.{starts_with, list_any}
use Rattle.lexer.specs.declared.token.Lexeme.{Lexeme as AnyLexeme}
use Rattle.lexer.specs.declared.token.Placed.{Placed as AnyPlaced}
use Rattle.lexer.specs.Tokens as lexer
pub use Rattle.lexer.specs.Bytes.{gap, is_blank, is_letter, is_digit, is_number_byte}
pub use Rattle.lexer.specs.Tokens.{sized_lexeme}
use Rattle.packet_fields.specs.declared.field.Field.{Field}
use Rattle.packet_fields.specs.Table.{field_named}
use Rattle.element_lang.specs.declared.mark.Mark.{Mark}
use Rattle.element_lang.specs.Mark.{spelling, keyword, symbol_in_front}

pub data Token : Type 0 where
  -- a keyword or a symbol
  fixed : Mark → Token
  number : ℕ → Token
  name : List ℕ → Token
  field : Field → Token

-- over what a word goes on: letters, digits, `_` and dots
abbrev pub is_word_byte : ℕ → Bool
is_word_byte b = is_number_byte b || b == 46

-- a word with a dot is the name of a field, and any other a keyword or a name
abbrev pub field_token : Option Field → Option Token
field_token None = None
field_token (Some f) = Some (field f)

abbrev pub plain_word : List ℕ → Option Mark → Token
plain_word word None = name word
plain_word word (Some m) = fixed m

abbrev pub word_token : List ℕ → Option Token
word_token word =
    if list_any (λ b. b == 46) word then field_token (field_named word)
    else Some (plain_word word (keyword word))

-- the value of a digit, in the base ten or sixteen
abbrev pub decimal_digit : ℕ → Option ℕ
decimal_digit b = if is_digit b then Some (b - 48) else None

abbrev pub hex_digit : ℕ → Option ℕ
hex_digit b =
    if is_digit b then Some (b - 48)
    else (if nat_le 97 b && nat_le b 102 then Some (b - 87)
    else (if nat_le 65 b && nat_le b 70 then Some (b - 55) else None))

-- one more digit behind a number, where the value stays below 2 ^ 64
abbrev pub with_digit : ℕ → ℕ → Option ℕ → Option ℕ
with_digit base n None = None
with_digit base n (Some d) = if nat_lt (n * base + d) (2 ^ 64) then Some (n * base + d) else None

-- the value of decimal digits, or of hexadecimal ones, behind a number
abbrev mutual
  pub decimal_value : Option ℕ → List ℕ → Option ℕ
  decimal_value None bs = None
  decimal_value (Some n) [] = Some n
  decimal_value (Some n) (b ∷ bs) = decimal_value (with_digit 10 n (decimal_digit b)) bs

  pub hex_value : Option ℕ → List ℕ → Option ℕ
  hex_value None bs = None
  hex_value (Some n) [] = Some n
  hex_value (Some n) (b ∷ bs) = hex_value (with_digit 16 n (hex_digit b)) bs

-- The number that these bytes spell: decimal digits, or `0x` and at least one hexadecimal digit, with a value below 2 ^
-- 64.
-- Zeros may stand in front.
abbrev pub number_value : List ℕ → Option ℕ
number_value bs =
    if starts_with nat_eq bs (codes "0x") then (if nat_lt 2 (length bs) then hex_value (Some 0) (drop 2 bs) else None)
    else decimal_value (Some 0) bs

abbrev pub number_token : Option ℕ → Option Token
number_token None = None
number_token (Some n) = Some (number n)

-- a token, and how many bytes it takes
abbrev pub Lexeme : Type 0
Lexeme = AnyLexeme Token

abbrev pub word_lexeme : List ℕ → Option Lexeme
word_lexeme word = sized_lexeme (length word) (word_token word)

abbrev pub number_lexeme : List ℕ → Option Lexeme
number_lexeme digits = sized_lexeme (length digits) (number_token (number_value digits))

abbrev pub symbol_of : Option Mark → Option Lexeme
symbol_of None = None
symbol_of (Some m) = Some (record { token = fixed m; len = length (spelling m) })

-- The token in front: a word from a letter on, a number from a digit on, and else the longest symbol.
abbrev pub lexeme : List ℕ → Option Lexeme
lexeme [] = None
lexeme (b ∷ bs) =
    if is_letter b then word_lexeme (take_while is_word_byte (b ∷ bs))
    else (if is_digit b then number_lexeme (take_while is_number_byte (b ∷ bs))
    else symbol_of (symbol_in_front (b ∷ bs)))

-- a word that is a name: one token, and neither a keyword nor the name of a field
abbrev pub IsName : List ℕ → Type 0
IsName word = lexeme word ≡ Some (record { token = name word; len = length word })

-- a token and the offset of its first byte in the text
abbrev pub Placed : Type 0
Placed = AnyPlaced Token

-- The text from `offset` on has these tokens, and then `rest` at `stop`, where blanks and comments have been passed.
abbrev pub HasTokens : ℕ → List ℕ → List Placed → ℕ → List ℕ → Type 0
HasTokens = lexer.HasTokens lexeme

-- all of the text is these tokens
abbrev pub AreTokens : List ℕ → List Placed → Type 0
AreTokens = lexer.AreTokens lexeme

-- behind some tokens stands a byte at which no token starts
abbrev pub IsNoToken : List ℕ → ℕ → Type 0
IsNoToken = lexer.IsNoToken lexeme
