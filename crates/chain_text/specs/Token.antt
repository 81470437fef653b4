-- The tokens of a chain's text.
use Rattle.std.specs.Prelude.{ℕ, Bool, List, [], ◌∷◌, length, Option, Some, None, nat_eq, find}
use Rattle.std.specs.Prelude.{if◌then◌else◌, codes, take_while}
use Rattle.std.specs.List.{starts_with}
use Rattle.std.specs.Option.{option_map}
use Rattle.gal_io.specs.Number.{number_up_to}
use Rattle.lexer.specs.declared.token.Lexeme.{Lexeme as AnyLexeme}
use Rattle.lexer.specs.declared.token.Placed.{Placed as AnyPlaced}
use Rattle.lexer.specs.Bytes.{is_letter, is_number_byte}
use Rattle.lexer.specs.Tokens.{sized_lexeme}
use Rattle.lexer.specs.Tokens as lexer
use Rattle.chain_text.specs.declared.mark.Mark.{Mark}
use Rattle.chain_text.specs.declared.mark.Mark.TheVariants.{Declares, Arrow, Opens, Closes, Ends}

pub data Token : Type 0 where
  -- a name of an element or a class
  name : List ℕ → Token
  -- the number of an output or an input
  number : ℕ → Token
  fixed : Mark → Token

-- how a mark is written
abbrev pub spelling : Mark → List ℕ
spelling Declares = codes "::"
spelling Arrow = codes "->"
spelling Opens = codes "["
spelling Closes = codes "]"
spelling Ends = codes ";"

abbrev pub all_marks : List Mark
all_marks = Declares ∷ Arrow ∷ Opens ∷ Closes ∷ Ends ∷ []

-- the bytes begin with a mark
abbrev pub stands : List ℕ → Mark → Bool
stands bs m = starts_with nat_eq bs (spelling m)

-- the mark with which the bytes begin
abbrev pub mark_in_front : List ℕ → Option Mark
mark_in_front bs = find (stands bs) all_marks

abbrev pub number_token : List ℕ → Option Token
number_token word = option_map (λ n. number n) (number_up_to 255 word)

-- a token, and how many bytes it takes
abbrev pub Lexeme : Type 0
Lexeme = AnyLexeme Token

abbrev pub mark_lexeme : Option Mark → Option Lexeme
mark_lexeme None = None
mark_lexeme (Some m) = Some (record { token = fixed m; len = length (spelling m) })

-- The token in front. A word is the longest run of letters, digits and `_`. It is a name where it starts with a letter,
-- and else a number from 0 to 255 in decimal.
abbrev pub lexeme : List ℕ → Option Lexeme
lexeme [] = None
lexeme (b ∷ bs) =
    let word = take_while is_number_byte (b ∷ bs) in
    if is_letter b then Some (record { token = name word; len = length word })
    else (if is_number_byte b then sized_lexeme (length word) (number_token word)
    else mark_lexeme (mark_in_front (b ∷ bs)))

-- a token and the offset of its first byte in the text
abbrev pub Placed : Type 0
Placed = AnyPlaced Token

-- all of the text is these tokens
abbrev pub AreTokens : List ℕ → List Placed → Type 0
AreTokens = lexer.AreTokens lexeme

-- behind some tokens stands a byte at which no token starts
abbrev pub IsNoToken : List ℕ → ℕ → Type 0
IsNoToken = lexer.IsNoToken lexeme
