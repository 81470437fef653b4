-- Tokens that are all that a stack awaits. Every stack has some.
use Rattle.std.proofs.Common.{◌≡◌, ℕ, List, [], ◌∷◌, Some}
use Rattle.gal_bits.specs.declared.op.Op.{Op}
use Rattle.element_lang.specs.declared.mark.Mark.{Mark}
use Rattle.element_lang.specs.declared.mark.Mark.TheVariants as marks
use Rattle.element_lang.specs.Token.{Token, fixed, number, name}
use Rattle.element_lang.specs.Surface.{SurfaceExpr, SurfaceExprs, SurfaceStmt, SurfaceBody, Literal, SurfaceRow, Declared}
use Rattle.element_lang.specs.Grammar.{infix_of, shift_of, IsPrim, is_name, IsUnary, is_prim, IsExpr, is_unary, is_infix, is_shift, AreExprs, are_last, are_more, AreKeys, are_no_keys, are_keys, AreNames, are_no_names}
use Rattle.element_lang.specs.Grammar.{IsStmt, is_drop, IsElse, is_absent, IsBody, is_end, is_more, AreWidths, is_last_width, AreLiterals, is_last_literal, AreRows, are_no_rows, IsMiddlebox, is_process}
use Rattle.element_grammar.specs.Machine.{Awaited, mark, some_number, some_name, prim, unary, expr, operand, exprs, more_exprs, keys, names, stmt, otherwise, body, widths, more_widths, literals, more_literals, rows, middlebox}

-- the tokens are what is awaited, and then the rest
pub data Takes : Awaited → List Token → List Token → Type 0 where
  takes_mark : {m : Mark} {rest : List Token} → Takes (mark m) (fixed m ∷ rest) rest
  takes_number : {n : ℕ} {rest : List Token} → Takes some_number (number n ∷ rest) rest
  takes_name : {word : List ℕ} {rest : List Token} → Takes some_name (name word ∷ rest) rest
  takes_prim : {e : SurfaceExpr} {ts rest : List Token} → IsPrim e ts rest → Takes prim ts rest
  takes_unary : {e : SurfaceExpr} {ts rest : List Token} → IsUnary e ts rest → Takes unary ts rest
  takes_expr : {e : SurfaceExpr} {ts rest : List Token} → IsExpr e ts rest → Takes expr ts rest
  takes_no_operand : {rest : List Token} → Takes operand rest rest
  takes_infix : {e : SurfaceExpr} {m : Mark} {op : Op} {ts rest : List Token} → infix_of m ≡ Some op → IsUnary e ts rest → Takes operand (fixed m ∷ ts) rest
  takes_shift : {m : Mark} {op : Op} {by : ℕ} {rest : List Token} → shift_of m ≡ Some op → Takes operand (fixed m ∷ number by ∷ rest) rest
  takes_exprs : {es : SurfaceExprs} {m : Mark} {ts rest : List Token} → AreExprs es m ts rest → Takes (exprs m) ts rest
  takes_no_expr : {m : Mark} {rest : List Token} → Takes (more_exprs m) (fixed m ∷ rest) rest
  takes_more_exprs : {es : SurfaceExprs} {m : Mark} {ts rest : List Token} → AreExprs es m ts rest → Takes (more_exprs m) (fixed marks.Comma ∷ ts) rest
  takes_keys : {es : SurfaceExprs} {ts rest : List Token} → AreKeys es ts rest → Takes keys ts rest
  takes_names : {words : List (List ℕ)} {ts rest : List Token} → AreNames words ts rest → Takes names ts rest
  takes_stmt : {s : SurfaceStmt} {ts rest : List Token} → IsStmt s ts rest → Takes stmt ts rest
  takes_otherwise : {b : SurfaceBody} {ts rest : List Token} → IsElse b ts rest → Takes otherwise ts rest
  takes_body : {b : SurfaceBody} {ts rest : List Token} → IsBody b ts rest → Takes body ts rest
  takes_widths : {ws : List ℕ} {ts rest : List Token} → AreWidths ws ts rest → Takes widths ts rest
  takes_no_width : {rest : List Token} → Takes more_widths (fixed marks.RightParen ∷ rest) rest
  takes_more_widths : {ws : List ℕ} {ts rest : List Token} → AreWidths ws ts rest → Takes more_widths (fixed marks.Comma ∷ ts) rest
  takes_literals : {ls : List Literal} {ts rest : List Token} → AreLiterals ls ts rest → Takes literals ts rest
  takes_no_literal : {rest : List Token} → Takes more_literals (fixed marks.RightParen ∷ rest) rest
  takes_more_literals : {ls : List Literal} {ts rest : List Token} → AreLiterals ls ts rest → Takes more_literals (fixed marks.Comma ∷ ts) rest
  takes_rows : {rs : List SurfaceRow} {ts rest : List Token} → AreRows rs ts rest → Takes rows ts rest
  takes_middlebox : {ds : List Declared} {b : SurfaceBody} {ts rest : List Token} → IsMiddlebox ds b ts rest → Takes middlebox ts rest

-- the tokens are all that is awaited
pub data Completes : List Awaited → List Token → Type 0 where
  nothing : Completes [] []
  next : {a : Awaited} {below : List Awaited} {ts rest : List Token} → Takes a ts rest → Completes below rest → Completes (a ∷ below) ts

-- each part has tokens, whatever follows
fill : (a : Awaited) (rest : List Token) → (ts : List Token) × Takes a ts rest
fill (mark m) rest = (fixed m ∷ rest, takes_mark)
fill some_number rest = (number 0 ∷ rest, takes_number)
fill some_name rest = (name [] ∷ rest, takes_name)
fill prim rest = (name [] ∷ rest, takes_prim is_name)
fill unary rest = (name [] ∷ rest, takes_unary (is_prim is_name))
fill expr rest = (name [] ∷ rest, takes_expr (is_unary (is_prim is_name)))
fill operand rest = (rest, takes_no_operand)
fill (exprs m) rest = (name [] ∷ fixed m ∷ rest, takes_exprs (are_last (is_unary (is_prim is_name))))
fill (more_exprs m) rest = (fixed m ∷ rest, takes_no_expr)
fill keys rest = (fixed marks.RightBracket ∷ rest, takes_keys are_no_keys)
fill names rest = (fixed marks.Assign ∷ rest, takes_names are_no_names)
fill stmt rest = (fixed marks.Drop ∷ fixed marks.Semicolon ∷ rest, takes_stmt is_drop)
fill otherwise rest = (rest, takes_otherwise is_absent)
fill body rest = (fixed marks.RightBrace ∷ rest, takes_body is_end)
fill widths rest = (number 0 ∷ fixed marks.RightParen ∷ rest, takes_widths is_last_width)
fill more_widths rest = (fixed marks.RightParen ∷ rest, takes_no_width)
fill literals rest = (number 0 ∷ fixed marks.Colon ∷ number 0 ∷ fixed marks.RightParen ∷ rest, takes_literals is_last_literal)
fill more_literals rest = (fixed marks.RightParen ∷ rest, takes_no_literal)
fill rows rest = (fixed marks.RightBrace ∷ rest, takes_rows are_no_rows)
fill middlebox rest = (fixed marks.Process ∷ fixed marks.LeftBrace ∷ fixed marks.RightBrace ∷ rest, takes_middlebox (is_process is_end))

-- each stack can be completed
pub completion : (stack : List Awaited) → (ts : List Token) × Completes stack ts
completion [] = ([], nothing)
completion (a ∷ below) = let h = completion below in let f = fill a h.0 in (f.0, next f.1 h.1)

-- a unary and what goes on behind it are an expression
pub as_expr : {below : List Awaited} {ts : List Token} → Completes (unary ∷ operand ∷ below) ts → Completes (expr ∷ below) ts
as_expr (next (takes_unary p) (next takes_no_operand c)) = next (takes_expr (is_unary p)) c
as_expr (next (takes_unary p) (next (takes_infix is q) c)) = next (takes_expr (is_infix p is q)) c
as_expr (next (takes_unary p) (next (takes_shift is) c)) = next (takes_expr (is_shift p is)) c

-- an expression and what more there may be are expressions
more_as_exprs : {m : Mark} {below : List Awaited} {ts : List Token} → Completes (expr ∷ more_exprs m ∷ below) ts → Completes (exprs m ∷ below) ts
more_as_exprs (next (takes_expr p) (next takes_no_expr c)) = next (takes_exprs (are_last p)) c
more_as_exprs (next (takes_expr p) (next (takes_more_exprs q) c)) = next (takes_exprs (are_more p q)) c

pub as_exprs : {m : Mark} {below : List Awaited} {ts : List Token} → Completes (unary ∷ operand ∷ more_exprs m ∷ below) ts → Completes (exprs m ∷ below) ts
as_exprs c = more_as_exprs (as_expr c)

exprs_as_keys : {below : List Awaited} {ts : List Token} → Completes (exprs marks.RightBracket ∷ below) ts → Completes (keys ∷ below) ts
exprs_as_keys (next (takes_exprs p) c) = next (takes_keys (are_keys p)) c

pub as_keys : {below : List Awaited} {ts : List Token} → Completes (unary ∷ operand ∷ more_exprs marks.RightBracket ∷ below) ts → Completes (keys ∷ below) ts
as_keys c = exprs_as_keys (as_exprs c)

-- a statement and those behind it are the rest of a block
pub as_body : {below : List Awaited} {ts : List Token} → Completes (stmt ∷ body ∷ below) ts → Completes (body ∷ below) ts
as_body (next (takes_stmt s) (next (takes_body b) c)) = next (takes_body (is_more s b)) c
