-- A part that is spelled is read to its end.
use Rattle.std.proofs.Common.{◌≡◌, ℕ, suc, true, false, List, [], ◌∷◌, ◌++◌, length, Option, Some, None, refl, ap, ◌∙◌, append_assoc, nat_eq, if◌then◌else◌}
use Rattle.gal_bits.specs.declared.op.Op.{Op}
use Rattle.element_lang.specs.declared.mark.Mark.{Mark}
use Rattle.element_lang.specs.declared.mark.Mark.TheVariants as marks
use Rattle.element_lang.specs.Token.{Token, fixed, number}
use Rattle.element_lang.specs.Surface.{SurfaceExpr, SurfaceExprs, SurfaceStmt, SurfaceBody, Literal, SurfaceRow, SurfaceDecl, Declared}
use Rattle.element_lang.specs.Grammar.{infix_of, shift_of, IsPrim, is_literal, is_in_brackets, is_byte, is_cast, is_select, is_adjust, IsUnary, is_prim, is_not, IsExpr, is_unary, is_infix, is_shift, AreExprs, are_last, are_more, AreKeys, are_no_keys, are_keys, AreNames, are_no_names, are_names}
use Rattle.element_lang.specs.Grammar.{IsStmt, is_let, is_assign, is_set_field, is_look, is_put, is_del, is_if, is_repeat, is_send, is_drop, IsElse, is_absent, is_else, IsBody, is_end, is_more}
use Rattle.element_lang.specs.Grammar.{AreWidths, is_last_width, is_width_and_more, AreLiterals, is_last_literal, is_literal_and_more, AreRows, are_no_rows, are_rows, IsDecl, is_table, is_map, is_vector, is_int, IsMiddlebox, is_process, is_declared}
use Rattle.element_grammar.specs.Machine.{Awaited, mark, some_number, some_name, prim, unary, expr, operand, exprs, more_exprs, keys, names, stmt, otherwise, body, widths, literals, rows, middlebox}
use Rattle.element_grammar.specs.Machine.{code, Move, push, skip, starts, starts_on, is_mark, infix_at, shift_at, unary_after, operand_move, keys_move, otherwise_move, step, after, when_it_fits, left_at}
use Rattle.element_grammar.specs.Refused.{NoMark, NoOperand, NoElse}

-- what is awaited has no effect where a token skips it
pub skipped : (m : Move) (below : List Awaited) (t : Token) (ts : List Token) → m ≡ skip
    → when_it_fits (after m below (step below t)) (λ stack. left_at stack ts) (suc (length ts)) ≡ left_at below (t ∷ ts)
skipped m below t ts e = ap (λ v. when_it_fits (after v below (step below t)) (λ stack. left_at stack ts) (suc (length ts))) e

pub skip_operand : (ts : List Token) → NoOperand ts → (below : List Awaited) → left_at (operand ∷ below) ts ≡ left_at below ts
skip_operand [] free below = refl
skip_operand (t ∷ ts) free below =
    skipped (operand_move (infix_at t) (shift_at t)) below t ts (ap (λ o. operand_move o (shift_at t)) free.0 ∙ ap (λ o. operand_move None o) free.1)

pub skip_else : (ts : List Token) → NoElse ts → (below : List Awaited) → left_at (otherwise ∷ below) ts ≡ left_at below ts
skip_else [] free below = refl
skip_else (t ∷ ts) free below = skipped (otherwise_move t) below t ts free

-- what begins with a part is that part, and then more
pub starts_both : (o : Option (List Awaited)) (first more below : List Awaited) (x y : Option (List Awaited))
    → after (starts o (first ++ more)) below x ≡ after (starts o first) (more ++ below) y
starts_both None first more below x y = refl
starts_both (Some parts) first more below x y = ap Some (simp append_assoc)

pub starts_more : (o : Option (List Awaited)) (more below : List Awaited) (x y : Option (List Awaited))
    → after (starts o more) below x ≡ after (starts o []) (more ++ below) y
starts_more o more below x y = starts_both o [] more below x y

pub as_unary : (ts : List Token) (below : List Awaited) → left_at (expr ∷ below) ts ≡ left_at (unary ∷ operand ∷ below) ts
as_unary [] below = refl
as_unary (t ∷ ts) below =
    ap (λ o. when_it_fits o (λ stack. left_at stack ts) (suc (length ts))) (starts_more (unary_after t) (operand ∷ []) below (step below t) (step (operand ∷ below) t))

pub as_expr : (close : Mark) (ts : List Token) (below : List Awaited) → left_at (exprs close ∷ below) ts ≡ left_at (expr ∷ more_exprs close ∷ below) ts
as_expr close [] below = refl
as_expr close (t ∷ ts) below =
    ap (λ o. when_it_fits o (λ stack. left_at stack ts) (suc (length ts)))
    (starts_both (unary_after t) (operand ∷ []) (more_exprs close ∷ []) below (step below t) (step (more_exprs close ∷ below) t))

-- keys are expressions where the bracket that closes them doesn't stand in front
keys_but : (t : Token) → (t ≡ fixed marks.RightBracket → ⊥) → keys_move t ≡ starts (unary_after t) (operand ∷ more_exprs marks.RightBracket ∷ [])
keys_but (fixed marks.RightBracket) free = absurd (free refl)
keys_but _ free = refl

pub keys_as_exprs : (ts : List Token) → NoMark marks.RightBracket ts → (below : List Awaited)
    → left_at (keys ∷ below) ts ≡ left_at (exprs marks.RightBracket ∷ below) ts
keys_as_exprs [] free below = refl
keys_as_exprs (t ∷ ts) free below =
    ap (λ v. when_it_fits (after v below (step below t)) (λ stack. left_at stack ts) (suc (length ts))) (keys_but t (λ e. free.none ts (ap (λ u. u ∷ ts) e)))

-- a symbol makes a second operand awaited, or the number of a shift
pub pushed : (t : Token) (ts : List Token) (op : Op) → infix_at t ≡ Some op → (below : List Awaited)
    → left_at (operand ∷ below) (t ∷ ts) ≡ left_at (unary ∷ below) ts
pushed t ts op is below = ap (λ o. when_it_fits (after (operand_move o (shift_at t)) below (step below t)) (λ stack. left_at stack ts) (suc (length ts))) is

pub shift_no_infix : (m : Mark) (op : Op) → shift_of m ≡ Some op → infix_of m ≡ None
shift_no_infix marks.ShiftLeft op is = refl
shift_no_infix marks.ShiftRight op is = refl
shift_no_infix _ op is = cc

pub pushed_shift : (m : Mark) (ts : List Token) (op : Op) → shift_of m ≡ Some op → (below : List Awaited)
    → left_at (operand ∷ below) (fixed m ∷ ts) ≡ left_at (some_number ∷ below) ts
pushed_shift m ts op is below =
    ap (λ o. when_it_fits (after (operand_move o (shift_of m)) below (step below (fixed m))) (λ stack. left_at stack ts) (suc (length ts))) (shift_no_infix m op is)
    ∙ ap (λ o. when_it_fits (after (operand_move None o) below (step below (fixed m))) (λ stack. left_at stack ts) (suc (length ts))) is

-- an operand begins with no sign
as_prim : {e : SurfaceExpr} {ts rest : List Token} → IsPrim e ts rest → (below : List Awaited) → left_at (unary ∷ below) ts ≡ left_at (prim ∷ below) ts
as_prim is_literal below = refl
as_prim _ below = refl

mutual
  pub reads_prim : {e : SurfaceExpr} {ts rest : List Token} → IsPrim e ts rest → (below : List Awaited) → left_at (prim ∷ below) ts ≡ left_at below rest
  reads_prim (is_in_brackets p) below = reads_expr p (refl, refl) (mark marks.RightParen ∷ below)
  reads_prim (is_byte p) below = reads_expr p (refl, refl) (mark marks.RightParen ∷ below)
  reads_prim (is_cast p) below = reads_expr p (refl, refl) (mark marks.RightParen ∷ below)
  reads_prim (is_select p q r) below =
      reads_expr p (refl, refl) (mark marks.Comma ∷ expr ∷ mark marks.Comma ∷ expr ∷ mark marks.RightParen ∷ below)
      ∙ reads_expr q (refl, refl) (mark marks.Comma ∷ expr ∷ mark marks.RightParen ∷ below) ∙ reads_expr r (refl, refl) (mark marks.RightParen ∷ below)
  reads_prim (is_adjust p q r) below =
      reads_expr p (refl, refl) (mark marks.Comma ∷ expr ∷ mark marks.Comma ∷ expr ∷ mark marks.RightParen ∷ below)
      ∙ reads_expr q (refl, refl) (mark marks.Comma ∷ expr ∷ mark marks.RightParen ∷ below) ∙ reads_expr r (refl, refl) (mark marks.RightParen ∷ below)
  reads_prim _ below = refl

  pub reads_unary : {e : SurfaceExpr} {ts rest : List Token} → IsUnary e ts rest → (below : List Awaited) → left_at (unary ∷ below) ts ≡ left_at below rest
  reads_unary (is_prim p) below = as_prim p below ∙ reads_prim p below
  reads_unary (is_not p) below = reads_prim p below

  pub reads_expr : {e : SurfaceExpr} {ts rest : List Token} → IsExpr e ts rest → NoOperand rest → (below : List Awaited)
      → left_at (expr ∷ below) ts ≡ left_at below rest
  reads_expr {ts = ts} {rest = rest} (is_unary p) free below = as_unary ts below ∙ reads_unary p (operand ∷ below) ∙ skip_operand rest free below
  reads_expr {ts = ts} (is_infix {mark = m} {op = op} {us = us} p is q) free below =
      as_unary ts below ∙ reads_unary p (operand ∷ below) ∙ pushed (fixed m) us op is below ∙ reads_unary q below
  reads_expr {ts = ts} {rest = rest} (is_shift {mark = m} {op = op} {by = by} p is) free below =
      as_unary ts below ∙ reads_unary p (operand ∷ below) ∙ pushed_shift m (number by ∷ rest) op is below

-- a mark that closes expressions is no comma, and no operand goes on behind it
pub record Closes (close : Mark) : Type 0 where
  pub no_infix : infix_of close ≡ None
  pub no_shift : shift_of close ≡ None
  pub no_comma : nat_eq (code close) (code marks.Comma) ≡ false
  pub itself : nat_eq (code close) (code close) ≡ true

pub bracket_closes : Closes marks.RightBracket
bracket_closes = record { no_infix = refl; no_shift = refl; no_comma = refl; itself = refl }

pub semicolon_closes : Closes marks.Semicolon
semicolon_closes = record { no_infix = refl; no_shift = refl; no_comma = refl; itself = refl }

-- behind an expression, the mark that closes, or a comma and more
pub closed : (close : Mark) (rest : List Token) → Closes close → (below : List Awaited)
    → left_at (more_exprs close ∷ below) (fixed close ∷ rest) ≡ left_at below rest
closed close rest c below =
    ap (λ b. when_it_fits (after (if b then push [] else starts_on (is_mark marks.Comma (fixed close)) (exprs close ∷ [])) below (step below (fixed close)))
    (λ stack. left_at stack rest) (suc (length rest)))
    c.itself

pub comma_more : (close : Mark) (rest : List Token) → Closes close → (below : List Awaited)
    → left_at (more_exprs close ∷ below) (fixed marks.Comma ∷ rest) ≡ left_at (exprs close ∷ below) rest
comma_more close rest c below =
    ap (λ b. when_it_fits (after (if b then push [] else push (exprs close ∷ [])) below (step below (fixed marks.Comma)))
    (λ stack. left_at stack rest) (suc (length rest)))
    c.no_comma

pub reads_exprs : {es : SurfaceExprs} {close : Mark} {ts rest : List Token} → AreExprs es close ts rest → Closes close → (below : List Awaited)
    → left_at (exprs close ∷ below) ts ≡ left_at below rest
reads_exprs {close = close} {ts = ts} {rest = rest} (are_last p) c below =
    as_expr close ts below ∙ reads_expr p (c.no_infix, c.no_shift) (more_exprs close ∷ below) ∙ closed close rest c below
reads_exprs {close = close} {ts = ts} (are_more {us = us} p q) c below =
    as_expr close ts below ∙ reads_expr p (refl, refl) (more_exprs close ∷ below) ∙ comma_more close us c below ∙ reads_exprs q c below

-- no expression begins with the bracket that closes keys
prim_no_bracket : {e : SurfaceExpr} {ts rest : List Token} → IsPrim e ts rest → NoMark marks.RightBracket ts
prim_no_bracket is_literal = record { none = λ rest e. cc }
prim_no_bracket _ = record { none = λ rest e. cc }

unary_no_bracket : {e : SurfaceExpr} {ts rest : List Token} → IsUnary e ts rest → NoMark marks.RightBracket ts
unary_no_bracket (is_prim p) = prim_no_bracket p
unary_no_bracket (is_not p) = record { none = λ rest e. cc }

pub expr_no_bracket : {e : SurfaceExpr} {ts rest : List Token} → IsExpr e ts rest → NoMark marks.RightBracket ts
expr_no_bracket (is_unary p) = unary_no_bracket p
expr_no_bracket (is_infix p is q) = unary_no_bracket p
expr_no_bracket (is_shift p is) = unary_no_bracket p

pub exprs_no_bracket : {es : SurfaceExprs} {close : Mark} {ts rest : List Token} → AreExprs es close ts rest → NoMark marks.RightBracket ts
exprs_no_bracket (are_last p) = expr_no_bracket p
exprs_no_bracket (are_more p q) = expr_no_bracket p

pub reads_keys : {es : SurfaceExprs} {ts rest : List Token} → AreKeys es ts rest → (below : List Awaited) → left_at (keys ∷ below) ts ≡ left_at below rest
reads_keys are_no_keys below = refl
reads_keys {ts = ts} (are_keys p) below = keys_as_exprs ts (exprs_no_bracket p) below ∙ reads_exprs p bracket_closes below

pub reads_names : {words : List (List ℕ)} {ts rest : List Token} → AreNames words ts rest → (below : List Awaited)
    → left_at (names ∷ below) ts ≡ left_at below rest
reads_names are_no_names below = refl
reads_names (are_names p) below = reads_names p below

-- the tokens of a body begin with no `else`
stmt_free : {s : SurfaceStmt} {ts rest : List Token} → IsStmt s ts rest → NoElse ts
stmt_free (is_let p) = refl
stmt_free _ = refl

pub free_else : {b : SurfaceBody} {ts rest : List Token} → IsBody b ts rest → NoElse ts
free_else is_end = refl
free_else (is_more p q) = stmt_free p

-- a statement doesn't begin with the bracket that closes a block
pub as_stmt : {s : SurfaceStmt} {ts rest : List Token} → IsStmt s ts rest → (below : List Awaited)
    → left_at (body ∷ below) ts ≡ left_at (stmt ∷ body ∷ below) ts
as_stmt (is_let p) below = refl
as_stmt _ below = refl

mutual
  pub reads_stmt : {s : SurfaceStmt} {ts rest : List Token} → IsStmt s ts rest → NoElse rest → (below : List Awaited)
      → left_at (stmt ∷ below) ts ≡ left_at below rest
  reads_stmt (is_let p) free below = reads_expr p (refl, refl) (mark marks.Semicolon ∷ below)
  reads_stmt (is_assign p) free below = reads_expr p (refl, refl) (mark marks.Semicolon ∷ below)
  reads_stmt (is_set_field p) free below = reads_expr p (refl, refl) (mark marks.Semicolon ∷ below)
  reads_stmt (is_look p q) free below =
      reads_names p (some_name ∷ mark marks.LeftBracket ∷ keys ∷ mark marks.Semicolon ∷ below) ∙ reads_keys q (mark marks.Semicolon ∷ below)
  reads_stmt (is_put p q) free below = reads_keys p (mark marks.Arrow ∷ exprs marks.Semicolon ∷ below) ∙ reads_exprs q semicolon_closes below
  reads_stmt (is_del p) free below = reads_keys p (mark marks.Semicolon ∷ below)
  reads_stmt (is_if p a b) free below =
      reads_expr p (refl, refl) (mark marks.LeftBrace ∷ body ∷ otherwise ∷ below) ∙ reads_body a (otherwise ∷ below) ∙ reads_else b free below
  reads_stmt (is_repeat p) free below = reads_body p below
  reads_stmt (is_send p) free below = reads_expr p (refl, refl) (mark marks.Semicolon ∷ below)
  reads_stmt is_drop free below = refl

  pub reads_else : {b : SurfaceBody} {ts rest : List Token} → IsElse b ts rest → NoElse rest → (below : List Awaited)
      → left_at (otherwise ∷ below) ts ≡ left_at below rest
  reads_else {rest = rest} is_absent free below = skip_else rest free below
  reads_else (is_else p) free below = reads_body p below

  pub reads_body : {b : SurfaceBody} {ts rest : List Token} → IsBody b ts rest → (below : List Awaited) → left_at (body ∷ below) ts ≡ left_at below rest
  reads_body is_end below = refl
  reads_body (is_more s b) below = as_stmt s below ∙ reads_stmt s (free_else b) (body ∷ below) ∙ reads_body b below

pub reads_widths : {ws : List ℕ} {ts rest : List Token} → AreWidths ws ts rest → (below : List Awaited) → left_at (widths ∷ below) ts ≡ left_at below rest
reads_widths is_last_width below = refl
reads_widths (is_width_and_more p) below = reads_widths p below

pub reads_literals : {ls : List Literal} {ts rest : List Token} → AreLiterals ls ts rest → (below : List Awaited)
    → left_at (literals ∷ below) ts ≡ left_at below rest
reads_literals is_last_literal below = refl
reads_literals (is_literal_and_more p) below = reads_literals p below

pub reads_rows : {rs : List SurfaceRow} {ts rest : List Token} → AreRows rs ts rest → (below : List Awaited) → left_at (rows ∷ below) ts ≡ left_at below rest
reads_rows are_no_rows below = refl
reads_rows (are_rows p q r) below =
    reads_literals p (mark marks.Arrow ∷ mark marks.LeftParen ∷ literals ∷ mark marks.Semicolon ∷ rows ∷ below)
    ∙ reads_literals q (mark marks.Semicolon ∷ rows ∷ below) ∙ reads_rows r below

-- a declaration is followed by what a middlebox has besides
pub reads_decl : {d : SurfaceDecl} {ts rest : List Token} → IsDecl d ts rest → (below : List Awaited)
    → left_at (middlebox ∷ below) ts ≡ left_at (middlebox ∷ below) rest
reads_decl (is_table p q r) below =
    reads_widths p (mark marks.Arrow ∷ mark marks.LeftParen ∷ widths ∷ mark marks.LeftBrace ∷ rows ∷ middlebox ∷ below)
    ∙ reads_widths q (mark marks.LeftBrace ∷ rows ∷ middlebox ∷ below) ∙ reads_rows r (middlebox ∷ below)
reads_decl (is_map p q) below =
    reads_widths p (mark marks.Arrow ∷ mark marks.LeftParen ∷ widths ∷ mark marks.Capacity ∷ some_number ∷ mark marks.Semicolon ∷ middlebox ∷ below)
    ∙ reads_widths q (mark marks.Capacity ∷ some_number ∷ mark marks.Semicolon ∷ middlebox ∷ below)
reads_decl (is_vector p) below = reads_widths p (mark marks.Semicolon ∷ middlebox ∷ below)
reads_decl is_int below = refl

pub reads_middlebox : {ds : List Declared} {b : SurfaceBody} {ts rest : List Token} → IsMiddlebox ds b ts rest → (below : List Awaited)
    → left_at (middlebox ∷ below) ts ≡ left_at below rest
reads_middlebox (is_process p) below = reads_body p below
reads_middlebox (is_declared p q) below = reads_decl p below ∙ reads_middlebox q below
