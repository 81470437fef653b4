-- What may come next in a source, as a stack of what is awaited.
use Rattle.std.specs.Prelude.{ℕ, suc, Bool, true, false, List, [], ◌∷◌, ◌++◌, length, Option, Some, None, nat_eq}
use Rattle.std.specs.Prelude.{if◌then◌else◌}
use Rattle.gal_bits.specs.declared.op.Op.{Op}
use Rattle.element_lang.specs.declared.mark.Mark.{Mark}
use Rattle.element_lang.specs.declared.mark.Mark.TheVariants as marks
use Rattle.element_lang.specs.Token.{Token, fixed, number, name, field}
use Rattle.element_lang.specs.Grammar.{infix_of, shift_of}

-- a number for each mark
abbrev pub code : Mark → ℕ
code marks.Table = 0
code marks.Map = 1
code marks.Vector = 2
code marks.Int = 3
code marks.Capacity = 4
code marks.Length = 5
code marks.Process = 6
code marks.Let = 7
code marks.Look = 8
code marks.Put = 9
code marks.Del = 10
code marks.If = 11
code marks.Else = 12
code marks.Repeat = 13
code marks.Send = 14
code marks.Drop = 15
code marks.Byte = 16
code marks.Cast = 17
code marks.Select = 18
code marks.Adjust = 19
code marks.Arrow = 20
code marks.Equal = 21
code marks.NotEqual = 22
code marks.AtMost = 23
code marks.ShiftLeft = 24
code marks.ShiftRight = 25
code marks.LeftParen = 26
code marks.RightParen = 27
code marks.LeftBracket = 28
code marks.RightBracket = 29
code marks.LeftBrace = 30
code marks.RightBrace = 31
code marks.Comma = 32
code marks.Semicolon = 33
code marks.Colon = 34
code marks.Assign = 35
code marks.Plus = 36
code marks.Minus = 37
code marks.Star = 38
code marks.Slash = 39
code marks.Percent = 40
code marks.Ampersand = 41
code marks.Bar = 42
code marks.Caret = 43
code marks.Tilde = 44
code marks.Less = 45

-- what is awaited: a part of the grammar, or what may follow a part that could go on
pub data Awaited : Type 0 where
  mark : Mark → Awaited
  some_number : Awaited
  some_name : Awaited
  prim : Awaited
  unary : Awaited
  expr : Awaited
  -- nothing, or a symbol and what stands behind it
  operand : Awaited
  -- expressions with commas between them, and then this mark
  exprs : Mark → Awaited
  -- this mark, or a comma and more expressions
  more_exprs : Mark → Awaited
  keys : Awaited
  names : Awaited
  stmt : Awaited
  otherwise : Awaited
  body : Awaited
  widths : Awaited
  more_widths : Awaited
  literals : Awaited
  more_literals : Awaited
  rows : Awaited
  middlebox : Awaited

-- what a token does where something is awaited
pub data Move : Type 0 where
  -- it begins it, and this is awaited behind it
  push : List Awaited → Move
  -- it doesn't begin it, which may be absent
  skip : Move
  refuse : Move

-- what it begins, and then more
abbrev pub starts : Option (List Awaited) → List Awaited → Move
starts None more = refuse
starts (Some parts) more = push (parts ++ more)

abbrev pub starts_on : Bool → List Awaited → Move
starts_on true parts = push parts
starts_on false parts = refuse

abbrev pub is_mark : Mark → Token → Bool
is_mark m (fixed k) = nat_eq (code m) (code k)
is_mark m _ = false

abbrev pub number_move : Token → Move
number_move (number n) = push []
number_move _ = refuse

abbrev pub name_move : Token → Move
name_move (name word) = push []
name_move _ = refuse

-- the operator that a token stands for between operands, and between an operand and a number
abbrev pub infix_at : Token → Option Op
infix_at (fixed m) = infix_of m
infix_at _ = None

abbrev pub shift_at : Token → Option Op
shift_at (fixed m) = shift_of m
shift_at _ = None

-- what is awaited behind the first token of a part
abbrev pub prim_after : Token → Option (List Awaited)
prim_after (number n) = Some (mark marks.Colon ∷ some_number ∷ [])
prim_after (name word) = Some []
prim_after (field f) = Some []
prim_after (fixed marks.LeftParen) = Some (expr ∷ mark marks.RightParen ∷ [])
prim_after (fixed marks.Byte) = Some (mark marks.LeftParen ∷ expr ∷ mark marks.RightParen ∷ [])
prim_after (fixed marks.Cast) =
    Some (mark marks.LeftParen ∷ some_number ∷ mark marks.Comma ∷ expr ∷ mark marks.RightParen ∷ [])
prim_after (fixed marks.Select) =
    Some (mark marks.LeftParen ∷ expr ∷ mark marks.Comma ∷ expr ∷ mark marks.Comma ∷ expr ∷ mark marks.RightParen ∷ [])
prim_after (fixed marks.Adjust) =
    Some (mark marks.LeftParen ∷ expr ∷ mark marks.Comma ∷ expr ∷ mark marks.Comma ∷ expr ∷ mark marks.RightParen ∷ [])
prim_after _ = None

abbrev pub unary_after : Token → Option (List Awaited)
unary_after (fixed marks.Tilde) = Some (prim ∷ [])
unary_after t = prim_after t

abbrev pub operand_move : Option Op → Option Op → Move
operand_move (Some op) shifted = push (unary ∷ [])
operand_move None (Some op) = push (some_number ∷ [])
operand_move None None = skip

abbrev pub more_exprs_move : Mark → Token → Move
more_exprs_move m t = if is_mark m t then push [] else starts_on (is_mark marks.Comma t) (exprs m ∷ [])

abbrev pub keys_move : Token → Move
keys_move (fixed marks.RightBracket) = push []
keys_move t = starts (unary_after t) (operand ∷ more_exprs marks.RightBracket ∷ [])

abbrev pub names_move : Token → Move
names_move (fixed marks.Assign) = push []
names_move (fixed marks.Comma) = push (some_name ∷ names ∷ [])
names_move _ = refuse

abbrev pub stmt_after : Token → Option (List Awaited)
stmt_after (fixed marks.Let) = Some (some_name ∷ mark marks.Assign ∷ expr ∷ mark marks.Semicolon ∷ [])
stmt_after (name word) = Some (mark marks.Assign ∷ expr ∷ mark marks.Semicolon ∷ [])
stmt_after (field f) = Some (mark marks.Assign ∷ expr ∷ mark marks.Semicolon ∷ [])
stmt_after (fixed marks.Look) =
    Some (some_name ∷ names ∷ some_name ∷ mark marks.LeftBracket ∷ keys ∷ mark marks.Semicolon ∷ [])
stmt_after (fixed marks.Put) =
    Some (some_name ∷ mark marks.Assign ∷ some_name ∷ mark marks.LeftBracket ∷ keys ∷ mark marks.Arrow
    ∷ exprs marks.Semicolon ∷ [])
stmt_after (fixed marks.Del) =
    Some (some_name ∷ mark marks.Assign ∷ some_name ∷ mark marks.LeftBracket ∷ keys ∷ mark marks.Semicolon ∷ [])
stmt_after (fixed marks.If) = Some (expr ∷ mark marks.LeftBrace ∷ body ∷ otherwise ∷ [])
stmt_after (fixed marks.Repeat) = Some (some_name ∷ some_number ∷ mark marks.LeftBrace ∷ body ∷ [])
stmt_after (fixed marks.Send) = Some (expr ∷ mark marks.Semicolon ∷ [])
stmt_after (fixed marks.Drop) = Some (mark marks.Semicolon ∷ [])
stmt_after _ = None

abbrev pub otherwise_move : Token → Move
otherwise_move (fixed marks.Else) = push (mark marks.LeftBrace ∷ body ∷ [])
otherwise_move _ = skip

abbrev pub body_move : Token → Move
body_move (fixed marks.RightBrace) = push []
body_move t = starts (stmt_after t) (body ∷ [])

abbrev pub widths_move : Token → Move
widths_move (number n) = push (more_widths ∷ [])
widths_move _ = refuse

abbrev pub more_widths_move : Token → Move
more_widths_move (fixed marks.RightParen) = push []
more_widths_move (fixed marks.Comma) = push (widths ∷ [])
more_widths_move _ = refuse

abbrev pub literals_move : Token → Move
literals_move (number n) = push (mark marks.Colon ∷ some_number ∷ more_literals ∷ [])
literals_move _ = refuse

abbrev pub more_literals_move : Token → Move
more_literals_move (fixed marks.RightParen) = push []
more_literals_move (fixed marks.Comma) = push (literals ∷ [])
more_literals_move _ = refuse

abbrev pub rows_move : Token → Move
rows_move (fixed marks.RightBrace) = push []
rows_move (fixed marks.LeftParen) =
    push (literals ∷ mark marks.Arrow ∷ mark marks.LeftParen ∷ literals ∷ mark marks.Semicolon ∷ rows ∷ [])
rows_move _ = refuse

abbrev pub decl_after : Token → Option (List Awaited)
decl_after (fixed marks.Table) =
    Some (some_name ∷ mark marks.LeftParen ∷ widths ∷ mark marks.Arrow ∷ mark marks.LeftParen ∷ widths
    ∷ mark marks.LeftBrace ∷ rows ∷ [])
decl_after (fixed marks.Map) =
    Some (some_name ∷ mark marks.LeftParen ∷ widths ∷ mark marks.Arrow ∷ mark marks.LeftParen ∷ widths
    ∷ mark marks.Capacity ∷ some_number ∷ mark marks.Semicolon ∷ [])
decl_after (fixed marks.Vector) =
    Some (some_name ∷ mark marks.Length ∷ some_number ∷ mark marks.Arrow ∷ mark marks.LeftParen ∷ widths
    ∷ mark marks.Semicolon ∷ [])
decl_after (fixed marks.Int) =
    Some (some_name ∷ mark marks.Colon ∷ some_number ∷ mark marks.Assign ∷ some_number ∷ mark marks.Semicolon ∷ [])
decl_after _ = None

abbrev pub middlebox_move : Token → Move
middlebox_move (fixed marks.Process) = push (mark marks.LeftBrace ∷ body ∷ [])
middlebox_move t = starts (decl_after t) (middlebox ∷ [])

abbrev pub move_at : Awaited → Token → Move
move_at (mark m) t = starts_on (is_mark m t) []
move_at some_number t = number_move t
move_at some_name t = name_move t
move_at prim t = starts (prim_after t) []
move_at unary t = starts (unary_after t) []
move_at expr t = starts (unary_after t) (operand ∷ [])
move_at operand t = operand_move (infix_at t) (shift_at t)
move_at (exprs m) t = starts (unary_after t) (operand ∷ more_exprs m ∷ [])
move_at (more_exprs m) t = more_exprs_move m t
move_at keys t = keys_move t
move_at names t = names_move t
move_at stmt t = starts (stmt_after t) []
move_at otherwise t = otherwise_move t
move_at body t = body_move t
move_at widths t = widths_move t
move_at more_widths t = more_widths_move t
move_at literals t = literals_move t
move_at more_literals t = more_literals_move t
move_at rows t = rows_move t
move_at middlebox t = middlebox_move t

abbrev pub after : Move → List Awaited → Option (List Awaited) → Option (List Awaited)
after (push parts) below skipped = Some (parts ++ below)
after skip below skipped = skipped
after refuse below skipped = None

-- what is awaited behind the token, if it fits
abbrev pub step : List Awaited → Token → Option (List Awaited)
step [] t = None
step (a ∷ below) t = after (move_at a t) below (step below t)

-- whether it may be absent
abbrev pub may_skip : Awaited → Bool
may_skip operand = true
may_skip otherwise = true
may_skip _ = false

-- Some 0 where tokens are missing at the end
abbrev pub end : List Awaited → Option ℕ
end [] = None
end (a ∷ below) = if may_skip a then end below else Some 0

-- goes on where a token fits, and else says how many tokens are left
abbrev pub when_it_fits : Option (List Awaited) → (List Awaited → Option ℕ) → ℕ → Option ℕ
when_it_fits None next left = Some left
when_it_fits (Some stack) next left = next stack

-- how many tokens are left at the first that doesn't fit, itself among them, or 0 at an end where more is awaited
abbrev pub left_at : List Awaited → List Token → Option ℕ
left_at stack [] = end stack
left_at stack (t ∷ ts) = when_it_fits (step stack t) (λ below. left_at below ts) (suc (length ts))
