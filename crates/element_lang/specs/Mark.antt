-- The keywords and symbols of a source.
use Rattle.std.specs.Prelude.{ℕ, Bool, not, ◌&&◌, List, [], ◌∷◌, length, Option, nat_eq, nat_lt, slice_index, codes}
use Rattle.std.specs.List.{filter, find, starts_with, list_any}
use Rattle.std.specs.Str.{bytes_eq}
use Rattle.element_lang.specs.declared.mark.Mark.{Mark}
use Rattle.element_lang.specs.declared.mark.Mark.TheVariants.{Table, Map, Vector, Int, Capacity, Length, Process, Let}
use Rattle.element_lang.specs.declared.mark.Mark.TheVariants.{Look, Put, Del}
use Rattle.element_lang.specs.declared.mark.Mark.TheVariants.{If, Else, Repeat, Send, Drop, Byte, Cast, Select, Adjust}
use Rattle.element_lang.specs.declared.mark.Mark.TheVariants.{Arrow, Equal, NotEqual, AtMost, ShiftLeft, ShiftRight}
use Rattle.element_lang.specs.declared.mark.Mark.TheVariants.{LeftParen, RightParen, LeftBracket, RightBracket}
use Rattle.element_lang.specs.declared.mark.Mark.TheVariants.{LeftBrace, RightBrace, Comma, Semicolon, Colon, Assign}
use Rattle.element_lang.specs.declared.mark.Mark.TheVariants.{Plus, Minus, Star, Slash, Percent, Ampersand, Bar, Caret}
use Rattle.element_lang.specs.declared.mark.Mark.TheVariants.{Tilde, Less}

-- how it is written
abbrev pub spelling : Mark → List ℕ
spelling Table = codes "table"
spelling Map = codes "map"
spelling Vector = codes "vector"
spelling Int = codes "int"
spelling Capacity = codes "capacity"
spelling Length = codes "length"
spelling Process = codes "process"
spelling Let = codes "let"
spelling Look = codes "look"
spelling Put = codes "put"
spelling Del = codes "del"
spelling If = codes "if"
spelling Else = codes "else"
spelling Repeat = codes "repeat"
spelling Send = codes "send"
spelling Drop = codes "drop"
spelling Byte = codes "byte"
spelling Cast = codes "cast"
spelling Select = codes "select"
spelling Adjust = codes "adjust"
spelling Arrow = codes "->"
spelling Equal = codes "=="
spelling NotEqual = codes "!="
spelling AtMost = codes "<="
spelling ShiftLeft = codes "<<"
spelling ShiftRight = codes ">>"
spelling LeftParen = codes "("
spelling RightParen = codes ")"
spelling LeftBracket = codes "["
spelling RightBracket = codes "]"
spelling LeftBrace = codes "{"
spelling RightBrace = codes "}"
spelling Comma = codes ","
spelling Semicolon = codes ";"
spelling Colon = codes ":"
spelling Assign = codes "="
spelling Plus = codes "+"
spelling Minus = codes "-"
spelling Star = codes "*"
spelling Slash = codes "/"
spelling Percent = codes "%"
spelling Ampersand = codes "&"
spelling Bar = codes "|"
spelling Caret = codes "^"
spelling Tilde = codes "~"
spelling Less = codes "<"

abbrev pub keywords : List Mark
keywords =
    Table ∷ Map ∷ Vector ∷ Int ∷ Capacity ∷ Length ∷ Process ∷ Let ∷ Look ∷ Put ∷ Del ∷ If ∷ Else ∷ Repeat ∷ Send ∷ Drop
    ∷ Byte ∷ Cast ∷ Select ∷ Adjust ∷ []

abbrev pub symbols : List Mark
symbols =
    Arrow ∷ Equal ∷ NotEqual ∷ AtMost ∷ ShiftLeft ∷ ShiftRight ∷ LeftParen ∷ RightParen ∷ LeftBracket ∷ RightBracket
    ∷ LeftBrace ∷ RightBrace ∷ Comma ∷ Semicolon ∷ Colon ∷ Assign ∷ Plus ∷ Minus ∷ Star ∷ Slash ∷ Percent ∷ Ampersand
    ∷ Bar ∷ Caret ∷ Tilde ∷ Less ∷ []

-- its spelling begins with the byte
abbrev pub begins : ℕ → Mark → Bool
begins byte m = nat_eq (slice_index (spelling m) 0) byte

-- those that begin with the byte, in order
unfoldable pub keywords_from : ℕ → List Mark
keywords_from byte = filter (begins byte) keywords

unfoldable pub symbols_from : ℕ → List Mark
symbols_from byte = filter (begins byte) symbols

-- the keyword that is written so
abbrev pub keyword : List ℕ → Option Mark
keyword word = find (λ m. bytes_eq (spelling m) word) keywords

-- the bytes begin with the mark's spelling
abbrev pub stands : List ℕ → Mark → Bool
stands bs m = starts_with nat_eq bs (spelling m)

abbrev pub is_longer : Mark → Mark → Bool
is_longer k m = nat_lt (length (spelling m)) (length (spelling k))

-- a longer symbol of the list stands there too
abbrev pub is_beaten : List Mark → List ℕ → Mark → Bool
is_beaten all bs m = list_any (λ k. stands bs k && is_longer k m) all

-- the symbol with which the bytes begin and that no longer one beats
abbrev pub symbol_in_front : List ℕ → Option Mark
symbol_in_front bs = find (λ m. stands bs m && not (is_beaten symbols bs m)) symbols
