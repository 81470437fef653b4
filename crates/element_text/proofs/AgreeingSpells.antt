-- No expression is odd that a source spells.
use Rattle.std.proofs.Common.{◌≡◌, ℕ, Bool, true, false, not, ◌||◌, List, Some, ◌==◌, refl, ap, ◌∙◌}
use Rattle.std.proofs.lemmas.Bool.{eq-eqb, or_from}
use Rattle.gal_bits.specs.declared.op.Op.{Op}
use Rattle.gal_bits.specs.declared.op.Op.TheVariants.{Cast}
use Rattle.element_lang.specs.declared.mark.Mark.{Mark}
use Rattle.element_lang.specs.declared.mark.Mark.TheVariants as marks
use Rattle.element_lang.specs.Token.{Token}
use Rattle.element_lang.specs.Rules as rules
use Rattle.element_lang.specs.Surface.{SurfaceExpr, SurfaceExprs, SurfaceStmt, SurfaceBody, Declared, Surface, written_width}
use Rattle.element_lang.specs.Broken.{in_expr, in_exprs}
use Rattle.element_lang.specs.Grammar.{shift_of, IsPrim, IsUnary, IsExpr, AreExprs, AreKeys, IsStmt, IsElse, IsBody, IsMiddlebox, Spells, is_literal, is_name, is_field, is_in_brackets, is_byte, is_cast, is_select, is_adjust, is_prim, is_not, is_unary, is_infix, is_shift, are_last, are_more, are_no_keys, are_keys, is_let, is_assign, is_set_field, is_look, is_put, is_del, is_if, is_repeat, is_send, is_drop, is_absent, is_else, is_end, is_more, is_process, is_declared}
use Rattle.element_text.proofs.AgreeingExprs.{is_odd}
use Rattle.element_text.proofs.AgreeingTests.{in_joined}
use Rattle.element_text.proofs.AgreeingBodies.{odd_in, odd_body}

-- where no width is written, none is written back
none_written : (op : Op) → not (0 == written_width op 0) ≡ false
none_written Cast = refl
none_written _ = refl

own_written : (width : ℕ) → not (width == width) ≡ false
own_written width = ap not (eq-eqb width width refl)

-- the symbols of shifts are those of operators that shift
shifts : (mark : Mark) (op : Op) → shift_of mark ≡ Some op → not (rules.is_shift op) ≡ false
shifts marks.ShiftLeft op e = let same : rules.is_shift op ≡ true = cc in ap not same
shifts marks.ShiftRight op e = let same : rules.is_shift op ≡ true = cc in ap not same
shifts _ op e = cc

neither : {a b : Bool} → a ≡ false → b ≡ false → (a || b) ≡ false
neither {a = a} {b = b} e f = or_from a b e f

two : {a b : Bool} → a ≡ false → b ≡ false → (a || (b || false)) ≡ false
two e f = neither e (neither f refl)

three : {a b c : Bool} → a ≡ false → b ≡ false → c ≡ false → (a || (b || (c || false))) ≡ false
three e f g = neither e (two f g)

mutual
  prim_plain : {e : SurfaceExpr} {ts rest : List Token} → IsPrim e ts rest → in_expr is_odd e ≡ false
  prim_plain is_literal = refl
  prim_plain is_name = refl
  prim_plain is_field = refl
  prim_plain (is_in_brackets h) = expr_plain h
  prim_plain (is_byte h) = expr_plain h
  prim_plain (is_cast {width = width} h) = two (own_written width) (expr_plain h)
  prim_plain (is_select h i j) = three (expr_plain h) (expr_plain i) (expr_plain j)
  prim_plain (is_adjust h i j) = three (expr_plain h) (expr_plain i) (expr_plain j)

  unary_plain : {e : SurfaceExpr} {ts rest : List Token} → IsUnary e ts rest → in_expr is_odd e ≡ false
  unary_plain (is_prim h) = prim_plain h
  unary_plain (is_not h) = neither (prim_plain h) refl

  expr_plain : {e : SurfaceExpr} {ts rest : List Token} → IsExpr e ts rest → in_expr is_odd e ≡ false
  expr_plain (is_unary h) = unary_plain h
  expr_plain (is_infix {op = op} h e i) = three (none_written op) (unary_plain h) (unary_plain i)
  expr_plain (is_shift {mark = mark} {op = op} h e) = neither (shifts mark op e) (unary_plain h)

exprs_plain : {es : SurfaceExprs} {close : Mark} {ts rest : List Token} → AreExprs es close ts rest → in_exprs is_odd es ≡ false
exprs_plain (are_last h) = neither (expr_plain h) refl
exprs_plain (are_more h i) = neither (expr_plain h) (exprs_plain i)

keys_plain : {es : SurfaceExprs} {ts rest : List Token} → AreKeys es ts rest → in_exprs is_odd es ≡ false
keys_plain are_no_keys = refl
keys_plain (are_keys h) = exprs_plain h

-- a statement of one expression
one_plain : {e : SurfaceExpr} {ts rest : List Token} → IsExpr e ts rest → ((in_expr is_odd e || false) || false) ≡ false
one_plain h = neither (neither (expr_plain h) refl) refl

mutual
  stmt_plain : {s : SurfaceStmt} {ts rest : List Token} → IsStmt s ts rest → odd_in s ≡ false
  stmt_plain (is_let h) = one_plain h
  stmt_plain (is_assign h) = one_plain h
  stmt_plain (is_set_field h) = one_plain h
  stmt_plain (is_look names h) = neither (keys_plain h) refl
  stmt_plain (is_put {keys = keys} {values = values} h i) =
      neither (in_joined is_odd keys values ∙ neither (keys_plain h) (exprs_plain i)) refl
  stmt_plain (is_del h) = neither (keys_plain h) refl
  stmt_plain (is_if h i j) = neither (neither (expr_plain h) refl) (neither (body_plain i) (else_plain j))
  stmt_plain (is_repeat h) = body_plain h
  stmt_plain (is_send h) = one_plain h
  stmt_plain is_drop = refl

  else_plain : {b : SurfaceBody} {ts rest : List Token} → IsElse b ts rest → odd_body b ≡ false
  else_plain is_absent = refl
  else_plain (is_else h) = body_plain h

  body_plain : {b : SurfaceBody} {ts rest : List Token} → IsBody b ts rest → odd_body b ≡ false
  body_plain is_end = refl
  body_plain (is_more h i) = neither (stmt_plain h) (body_plain i)

middlebox_plain : {ds : List Declared} {b : SurfaceBody} {ts rest : List Token} → IsMiddlebox ds b ts rest → odd_body b ≡ false
middlebox_plain (is_process h) = body_plain h
middlebox_plain (is_declared d h) = middlebox_plain h

pub spelled_plain : (ts : List Token) (s : Surface) → Spells ts s → odd_body s.body ≡ false
spelled_plain ts s h = middlebox_plain h
