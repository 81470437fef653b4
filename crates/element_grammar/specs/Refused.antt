-- What the functions of the parser say of what they read, and of what they miss.
use Rattle.std.specs.Prelude.{◌≡◌, ◌≢◌, ℕ, List, [], ◌∷◌, ◌++◌, Some, None}
use Rattle.gal_bits.specs.declared.op.Op.{Op}
use Rattle.element_lang.specs.declared.mark.Mark.{Mark}
use Rattle.element_lang.specs.declared.mark.Mark.TheVariants as marks
use Rattle.element_lang.specs.Token.{Token, fixed, name}
use Rattle.element_lang.specs.Surface.{SurfaceExpr, SurfaceExprs, SurfaceStmt, SurfaceBody, SurfaceRow, Declared, apply}
use Rattle.element_lang.specs.Grammar.{three, IsUnary, IsExpr, AreKeys, IsStmt, IsElse, AreWidths, AreLiterals}
use Rattle.element_lang.specs.Grammar.{IsMiddlebox}
use Rattle.element_grammar.specs.declared.error.ParseError.{ParseError}
use Rattle.element_grammar.specs.declared.error.ParseError.TheVariants.{Left}
use Rattle.element_grammar.specs.Machine.{Awaited, mark, some_name, expr, operand, keys, stmt, otherwise, widths}
use Rattle.element_grammar.specs.Machine.{literals, middlebox, skip, infix_at, shift_at}
use Rattle.element_grammar.specs.Machine.{otherwise_move, left_at}

-- what is awaited stands in front, and then the rest, to which it doesn't reach
pub record ReadsAwaited (a : Awaited) (ts rest : List Token) : Type 0 where
  pub way : (below : List Awaited) → left_at (a ∷ below) ts ≡ left_at below rest

-- what is awaited, one after another, doesn't stand in front: the error tells how many tokens are left at the first
-- that doesn't fit
pub record Misses (awaited : List Awaited) (ts : List Token) (e : ParseError) : Type 0 where
  pub tells : (left : ℕ) (below : List Awaited) → e ≡ Left left → left_at (awaited ++ below) ts ≡ Some left

-- no such mark stands in front
pub record NoMark (m : Mark) (ts : List Token) : Type 0 where
  pub none : (rest : List Token) → ts ≢ fixed m ∷ rest

-- no mark at all stands in front
pub record NoMarks (ts : List Token) : Type 0 where
  pub none : (m : Mark) (rest : List Token) → ts ≢ fixed m ∷ rest

-- no symbol stands in front behind which an operand goes on
abbrev pub NoOperand : List Token → Type 0
NoOperand [] = Unit {0}
NoOperand (t ∷ ts) = (infix_at t ≡ None) × (shift_at t ≡ None)

-- no `else` stands in front
abbrev pub NoElse : List Token → Type 0
NoElse [] = Unit {0}
NoElse (t ∷ ts) = otherwise_move t ≡ skip

-- no token stands in front
pub record AtEnd (ts : List Token) (e : ParseError) : Type 0 where
  pub none : ts ≡ []
  pub left : e ≡ Left 0

-- ## Expressions

-- behind one operand stands what makes it the whole expression, and then the rest
pub record FoundOperand (first whole : SurfaceExpr) (ts rest : List Token) : Type 0 where
  pub spelled : (before : List Token) → IsUnary first before ts → IsExpr whole before rest
  pub reads : ReadsAwaited operand ts rest

-- this expression stands in front, as far as it goes: nothing is left behind it by which it would go on
pub record FoundExpr (e : SurfaceExpr) (ts rest : List Token) : Type 0 where
  pub spelled : IsExpr e ts rest
  pub reads : ReadsAwaited expr ts rest

-- the same between two marks
pub record FoundBetween (before behind : Mark) (e : SurfaceExpr) (ts rest : List Token) : Type 0 where
  pub inside : List Token
  pub begins : ts ≡ fixed before ∷ inside
  pub found : FoundExpr e inside (fixed behind ∷ rest)

-- what is awaited of three expressions in brackets
abbrev pub three_parts : List Awaited
three_parts = mark marks.LeftParen ∷ expr ∷ mark marks.Comma ∷ expr ∷ mark marks.Comma ∷ expr ∷ mark marks.RightParen
    ∷ []

-- an operator of three expressions, which stand in front in brackets
pub record FoundThree (op : Op) (e : SurfaceExpr) (ts rest : List Token) : Type 0 where
  pub a : SurfaceExpr
  pub b : SurfaceExpr
  pub c : SurfaceExpr
  pub us : List Token
  pub vs : List Token
  pub ws : List Token
  pub tree : e ≡ apply op 0 (three a b c)
  pub begins : ts ≡ fixed marks.LeftParen ∷ us
  pub first : IsExpr a us (fixed marks.Comma ∷ vs)
  pub second : IsExpr b vs (fixed marks.Comma ∷ ws)
  pub third : IsExpr c ws (fixed marks.RightParen ∷ rest)

-- ## Statements

-- what is awaited of an object and its keys
abbrev pub entry_parts : List Awaited
entry_parts = some_name ∷ mark marks.LeftBracket ∷ keys ∷ []

-- an object's name and the keys in square brackets behind it, and then the rest
pub record FoundEntry (object : List ℕ) (es : SurfaceExprs) (ts rest : List Token) : Type 0 where
  pub inside : List Token
  pub begins : ts ≡ name object ∷ fixed marks.LeftBracket ∷ inside
  pub keys_found : AreKeys es inside rest

-- this statement stands in front, as far as it goes: behind an `if` no `else` is left that it could take
pub record FoundStmt (s : SurfaceStmt) (ts rest : List Token) : Type 0 where
  pub spelled : IsStmt s ts rest
  pub reads : ReadsAwaited stmt ts rest

-- the same of a block behind `else`, which may be absent
pub record FoundElse (b : SurfaceBody) (ts rest : List Token) : Type 0 where
  pub spelled : IsElse b ts rest
  pub reads : ReadsAwaited otherwise ts rest

-- ## Declarations

-- what is awaited of a row behind its first bracket
abbrev pub row_parts : List Awaited
row_parts = literals ∷ mark marks.Arrow ∷ mark marks.LeftParen ∷ literals ∷ mark marks.Semicolon ∷ []

-- a row without its first bracket, and then the rest
pub record FoundRow (row : SurfaceRow) (ts rest : List Token) : Type 0 where
  pub us : List Token
  pub keys : AreLiterals row.keys ts (fixed marks.Arrow ∷ fixed marks.LeftParen ∷ us)
  pub values : AreLiterals row.values us (fixed marks.Semicolon ∷ rest)

-- what is awaited of the name and the widths of a table or a map
abbrev pub header_parts : List Awaited
header_parts = some_name ∷ mark marks.LeftParen ∷ widths ∷ mark marks.Arrow ∷ mark marks.LeftParen ∷ widths ∷ []

-- the name and the widths of a table or a map, and then the rest
pub record FoundHeader (word keys values : List ℕ) (ts rest : List Token) : Type 0 where
  pub us : List Token
  pub vs : List Token
  pub begins : ts ≡ name word ∷ fixed marks.LeftParen ∷ us
  pub keys_found : AreWidths keys us (fixed marks.Arrow ∷ fixed marks.LeftParen ∷ vs)
  pub values_found : AreWidths values vs rest

-- these declarations stand in front, and then the rest, which is awaited to go on as a middlebox does
pub record FoundObjects (objects : List Declared) (ts rest : List Token) : Type 0 where
  pub spelled : (more : List Declared) (b : SurfaceBody) (end : List Token) → IsMiddlebox more b rest end
      → IsMiddlebox (objects ++ more) b ts end
  pub reads : (below : List Awaited) → left_at (middlebox ∷ below) ts ≡ left_at (middlebox ∷ below) rest

-- the tokens spell no source, and the error tells how many are left at the first that doesn't fit
pub record SpellsNone (ts : List Token) (e : ParseError) : Type 0 where
  pub tells : (left : ℕ) → e ≡ Left left → left_at (middlebox ∷ []) ts ≡ Some left
