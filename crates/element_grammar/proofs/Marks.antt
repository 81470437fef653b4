-- Marks are told apart by their codes.
use Rattle.std.proofs.Common.{◌≡◌, true, List, [], ◌∷◌, refl, sym, ap, ◌∙◌, eqb-true, get_or}
use Rattle.element_lang.specs.declared.mark.Mark.{Mark}
use Rattle.element_lang.specs.declared.mark.Mark.TheVariants.{Table, Map, Vector, Int, Capacity, Length, Process, Let, Look, Put, Del, If, Else, Repeat, Send, Drop, Byte, Cast, Select, Adjust, Arrow, Equal, NotEqual, AtMost, ShiftLeft, ShiftRight, LeftParen, RightParen, LeftBracket, RightBracket, LeftBrace, RightBrace, Comma, Semicolon, Colon, Assign, Plus, Minus, Star, Slash, Percent, Ampersand, Bar, Caret, Tilde, Less}
use Rattle.element_lang.specs.Token.{Token, fixed}
use Rattle.element_grammar.specs.Machine.{code, is_mark}

-- the marks in the order of their codes
abbrev all_marks : List Mark
all_marks =
    Table ∷ Map ∷ Vector ∷ Int ∷ Capacity ∷ Length ∷ Process ∷ Let ∷ Look ∷ Put ∷ Del ∷ If ∷ Else ∷ Repeat ∷ Send ∷ Drop
    ∷ Byte ∷ Cast ∷ Select ∷ Adjust ∷ Arrow ∷ Equal ∷ NotEqual ∷ AtMost ∷ ShiftLeft ∷ ShiftRight ∷ LeftParen ∷ RightParen
    ∷ LeftBracket ∷ RightBracket ∷ LeftBrace ∷ RightBrace ∷ Comma ∷ Semicolon ∷ Colon ∷ Assign ∷ Plus ∷ Minus ∷ Star
    ∷ Slash ∷ Percent ∷ Ampersand ∷ Bar ∷ Caret ∷ Tilde ∷ Less ∷ []

decoded : (m : Mark) → get_or all_marks (code m) Table ≡ m
decoded Table = refl
decoded _ = refl

-- marks with one code are one mark
pub code_injective : (a b : Mark) → code a ≡ code b → a ≡ b
code_injective a b e = sym (decoded a) ∙ ap (λ n. get_or all_marks n Table) e ∙ decoded b

-- a token that passes the test for a mark is that mark
pub mark_passed : (m : Mark) (t : Token) → is_mark m t ≡ true → t ≡ fixed m
mark_passed m (fixed k) e = ap fixed (sym (code_injective m k (eqb-true (code m) (code k) e)))
mark_passed m _ e = cc
