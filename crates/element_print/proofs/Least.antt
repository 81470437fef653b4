-- No spelling of an expression has fewer tokens than the printed one.
use Rattle.std.proofs.Common.{◌≡◌, ◌+◌, ◌≤◌, Bool, true, false, ◌||◌, List, ◌∷◌, length, Option, Some, unwrap_or, refl, sym, ap, ◌∙◌, arith, length-append}
use Rattle.std.specs.Option.{option_map}
use Rattle.gal_bits.specs.declared.op.Op.{Op}
use Rattle.element_lang.specs.declared.mark.Mark.{Mark}
use Rattle.element_lang.specs.declared.mark.Mark.TheVariants as marks
use Rattle.element_lang.specs.Token.{Token, fixed}
use Rattle.element_lang.specs.Surface.{SurfaceExpr, SurfaceExprs, apply, no_expr, expr}
use Rattle.element_lang.specs.Grammar.{infix_of, two, IsPrim, is_in_brackets, is_literal, is_name, is_field, is_byte, is_cast, is_select, is_adjust, IsUnary, is_prim, is_not, IsExpr, is_unary, is_infix, is_shift, AreExprs, are_last, are_more, AreKeys, are_no_keys, are_keys}
use Rattle.element_print.specs.declared.place.Place.TheVariants.{Operand, Turned}
use Rattle.element_print.specs.Printed.{expr_tokens, exprs_tokens, part, in_brackets_if, needs_brackets, has_infix, is_turned}
use Rattle.element_print.specs.Printed as printed
use Rattle.element_print.proofs.Spelled.{infix_tokens}

at_most_brackets : (b : Bool) (ts : List Token) → length (in_brackets_if b ts) ≤ length ts + 2
at_most_brackets true ts = simp length-append (omega arith)
at_most_brackets false ts = omega arith

no_less : (b : Bool) (ts : List Token) → length ts ≤ length (in_brackets_if b ts)
no_less true ts = simp length-append (omega arith)
no_less false ts = omega arith

more_brackets : (b c : Bool) (ts : List Token) → length (in_brackets_if b ts) ≤ length (in_brackets_if (b || c) ts)
more_brackets true c ts = omega arith
more_brackets false c ts = no_less c ts

all_infix : (m : Mark) → unwrap_or (option_map printed.is_infix (infix_of m)) true ≡ true
all_infix marks.Plus = refl
all_infix _ = refl

infix_is : (m : Mark) (op : Op) → infix_of m ≡ Some op → printed.is_infix op ≡ true
infix_is m op e = ap (λ (o : Option Op). unwrap_or (option_map printed.is_infix o) true) (sym e) ∙ all_infix m

infix_length : (m : Mark) (op : Op) (a b : SurfaceExpr) → infix_of m ≡ Some op
    → length (expr_tokens (apply op 0 (two a b))) ≡ length (part Operand a) + 1 + length (part Operand b)
infix_length m op a b e = rw (infix_tokens op 0 (two a b) (infix_is m op e)) (simp length-append (omega arith))

mutual
  prim_least : {e : SurfaceExpr} {ts rest : List Token} → IsPrim e ts rest → length (part Turned e) + length rest ≤ length ts
  prim_least is_literal = omega arith
  prim_least is_name = omega arith
  prim_least is_field = omega arith
  prim_least (is_in_brackets {e = e} h) = omega (arith, expr_least h, at_most_brackets (needs_brackets Turned e) (expr_tokens e))
  prim_least (is_byte h) = simp length-append (omega (arith, expr_least h))
  prim_least (is_cast h) = simp length-append (omega (arith, expr_least h))
  prim_least (is_select f g h) = simp length-append (omega (arith, expr_least f, expr_least g, expr_least h))
  prim_least (is_adjust f g h) = simp length-append (omega (arith, expr_least f, expr_least g, expr_least h))

  unary_least : {e : SurfaceExpr} {ts rest : List Token} → IsUnary e ts rest → length (part Operand e) + length rest ≤ length ts
  unary_least (is_prim {e = e} h) = omega (arith, prim_least h, more_brackets (has_infix e) (is_turned e) (expr_tokens e))
  unary_least (is_not h) = simp length-append (omega (arith, prim_least h))

  pub expr_least : {e : SurfaceExpr} {ts rest : List Token} → IsExpr e ts rest → length (expr_tokens e) + length rest ≤ length ts
  expr_least (is_unary {e = e} h) = omega (arith, unary_least h, no_less (has_infix e) (expr_tokens e))
  expr_least (is_infix {a = a} {b = b} {mark = m} {op = op} f is g) = omega (arith, unary_least f, unary_least g, infix_length m op a b is)
  expr_least (is_shift h is) = simp length-append (omega (arith, unary_least h))

more_length : (e : SurfaceExpr) (es : SurfaceExprs) → length (exprs_tokens (expr e es)) ≤ length (expr_tokens e) + 1 + length (exprs_tokens es)
more_length e no_expr = simp length-append (omega arith)
more_length e (expr f es) = rw (length-append (expr_tokens e) (fixed marks.Comma ∷ exprs_tokens (expr f es))) (omega arith)

pub exprs_least : {es : SurfaceExprs} {close : Mark} {ts rest : List Token} → AreExprs es close ts rest → length (exprs_tokens es) + 1 + length rest ≤ length ts
exprs_least (are_last h) = simp length-append (omega (arith, expr_least h))
exprs_least (are_more {e = e} {es = es} h k) = omega (arith, expr_least h, exprs_least k, more_length e es)

pub keys_least : {es : SurfaceExprs} {ts rest : List Token} → AreKeys es ts rest → length (exprs_tokens es) + 1 + length rest ≤ length ts
keys_least are_no_keys = omega arith
keys_least (are_keys h) = exprs_least h
