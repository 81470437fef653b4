-- What stands behind a piece of a source has fewer tokens.
use Rattle.std.proofs.Common.{◌<◌, ℕ, List, length, arith}
use Rattle.element_lang.specs.declared.mark.Mark.{Mark}
use Rattle.element_lang.specs.Token.{Token}
use Rattle.element_lang.specs.Surface.{SurfaceExpr, SurfaceExprs, SurfaceRow, SurfaceDecl, Literal}
use Rattle.element_lang.specs.Grammar.{IsPrim, IsUnary, IsExpr, AreExprs, AreKeys, AreNames, AreWidths, AreLiterals, AreRows, IsDecl}
use Rattle.element_lang.specs.Grammar.IsPrim.{is_literal, is_name, is_field, is_in_brackets, is_byte, is_cast, is_select, is_adjust}
use Rattle.element_lang.specs.Grammar.IsUnary.{is_prim, is_not}
use Rattle.element_lang.specs.Grammar.IsExpr.{is_unary, is_infix, is_shift}
use Rattle.element_lang.specs.Grammar.AreExprs.{are_last, are_more}
use Rattle.element_lang.specs.Grammar.AreKeys.{are_no_keys, are_keys}
use Rattle.element_lang.specs.Grammar.AreNames.{are_no_names, are_names}
use Rattle.element_lang.specs.Grammar.AreWidths.{is_last_width, is_width_and_more}
use Rattle.element_lang.specs.Grammar.AreLiterals.{is_last_literal, is_literal_and_more}
use Rattle.element_lang.specs.Grammar.AreRows.{are_no_rows, are_rows}
use Rattle.element_lang.specs.Grammar.IsDecl.{is_table, is_map, is_vector, is_int}

mutual
  prim : {e : SurfaceExpr} {ts rest : List Token} → IsPrim e ts rest → length rest < length ts
  prim is_literal = omega arith
  prim is_name = omega arith
  prim is_field = omega arith
  prim (is_in_brackets h) = omega (arith, expr h)
  prim (is_byte h) = omega (arith, expr h)
  prim (is_cast h) = omega (arith, expr h)
  prim (is_select h k l) = omega (arith, expr h, expr k, expr l)
  prim (is_adjust h k l) = omega (arith, expr h, expr k, expr l)

  unary : {e : SurfaceExpr} {ts rest : List Token} → IsUnary e ts rest → length rest < length ts
  unary (is_prim h) = prim h
  unary (is_not h) = omega (arith, prim h)

  pub expr : {e : SurfaceExpr} {ts rest : List Token} → IsExpr e ts rest → length rest < length ts
  expr (is_unary h) = unary h
  expr (is_infix h e k) = omega (arith, unary h, unary k)
  expr (is_shift h e) = omega (arith, unary h)

pub exprs : {es : SurfaceExprs} {close : Mark} {ts rest : List Token} → AreExprs es close ts rest → length rest < length ts
exprs (are_last h) = omega (arith, expr h)
exprs (are_more h k) = omega (arith, expr h, exprs k)

pub keys : {es : SurfaceExprs} {ts rest : List Token} → AreKeys es ts rest → length rest < length ts
keys are_no_keys = omega arith
keys (are_keys h) = exprs h

pub names : {words : List (List ℕ)} {ts rest : List Token} → AreNames words ts rest → length rest < length ts
names are_no_names = omega arith
names (are_names h) = omega (arith, names h)

widths : {ws : List ℕ} {ts rest : List Token} → AreWidths ws ts rest → length rest < length ts
widths is_last_width = omega arith
widths (is_width_and_more h) = omega (arith, widths h)

literals : {ls : List Literal} {ts rest : List Token} → AreLiterals ls ts rest → length rest < length ts
literals is_last_literal = omega arith
literals (is_literal_and_more h) = omega (arith, literals h)

rows : {rs : List SurfaceRow} {ts rest : List Token} → AreRows rs ts rest → length rest < length ts
rows are_no_rows = omega arith
rows (are_rows h k l) = omega (arith, literals h, literals k, rows l)

pub decl : {d : SurfaceDecl} {ts rest : List Token} → IsDecl d ts rest → length rest < length ts
decl (is_table h k l) = omega (arith, widths h, widths k, rows l)
decl (is_map h k) = omega (arith, widths h, widths k)
decl (is_vector h) = omega (arith, widths h)
decl is_int = omega arith
