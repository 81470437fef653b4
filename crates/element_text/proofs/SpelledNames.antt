-- A surface tree that is spelled declares names of its tokens.
use Rattle.std.proofs.Common.{ℕ, List}
use Rattle.std.specs.List.{AllByRecursion}
use Rattle.element_lang.specs.declared.mark.Mark.{Mark}
use Rattle.element_lang.specs.Token.{Token, IsName}
use Rattle.element_lang.specs.Surface.{SurfaceExpr, SurfaceExprs, SurfaceStmt, SurfaceBody, Literal, SurfaceRow, SurfaceDecl, Declared, Surface}
use Rattle.element_lang.specs.Grammar.{IsPrim, is_name, is_in_brackets, is_byte, is_cast, is_select, is_adjust, IsUnary, is_prim, is_not, IsExpr, is_unary, is_infix, is_shift, AreExprs, are_last, are_more, AreKeys, are_no_keys, are_keys, AreNames, are_no_names, are_names, IsStmt, is_let, is_assign, is_set_field, is_look, is_put, is_del, is_if, is_repeat, is_send, is_drop, IsElse, is_absent, is_else, IsBody, is_end, is_more, AreWidths, is_last_width, is_width_and_more, AreLiterals, is_last_literal, is_literal_and_more, AreRows, are_no_rows, are_rows, IsDecl, is_table, is_map, is_vector, is_int, IsMiddlebox, is_process, is_declared, Spells}
use Rattle.element_text.specs.Names.{HasStmtNames, HasBodyNames, declared_name, HasSurfaceNames}
use Rattle.element_text.proofs.TokenNames.{AreNamed}

-- ## What stands behind a part has names among the same tokens

mutual
  prim_rest : {e : SurfaceExpr} {ts rest : List Token} → IsPrim e ts rest → AreNamed ts → AreNamed rest
  prim_rest is_name h = h.1
  prim_rest (is_in_brackets e) h = expr_rest e h
  prim_rest (is_byte e) h = expr_rest e h
  prim_rest (is_cast e) h = expr_rest e h
  prim_rest (is_select a b c) h = expr_rest c (expr_rest b (expr_rest a h))
  prim_rest (is_adjust a b c) h = expr_rest c (expr_rest b (expr_rest a h))
  prim_rest _ h = h

  unary_rest : {e : SurfaceExpr} {ts rest : List Token} → IsUnary e ts rest → AreNamed ts → AreNamed rest
  unary_rest (is_prim e) h = prim_rest e h
  unary_rest (is_not e) h = prim_rest e h

  expr_rest : {e : SurfaceExpr} {ts rest : List Token} → IsExpr e ts rest → AreNamed ts → AreNamed rest
  expr_rest (is_unary e) h = unary_rest e h
  expr_rest (is_infix a op b) h = unary_rest b (unary_rest a h)
  expr_rest (is_shift a op) h = unary_rest a h

exprs_rest : {es : SurfaceExprs} {close : Mark} {ts rest : List Token} → AreExprs es close ts rest → AreNamed ts → AreNamed rest
exprs_rest (are_last e) h = expr_rest e h
exprs_rest (are_more e es) h = exprs_rest es (expr_rest e h)

keys_rest : {es : SurfaceExprs} {ts rest : List Token} → AreKeys es ts rest → AreNamed ts → AreNamed rest
keys_rest are_no_keys h = h
keys_rest (are_keys es) h = exprs_rest es h

widths_rest : {ws : List ℕ} {ts rest : List Token} → AreWidths ws ts rest → AreNamed ts → AreNamed rest
widths_rest is_last_width h = h
widths_rest (is_width_and_more ws) h = widths_rest ws h

literals_rest : {ls : List Literal} {ts rest : List Token} → AreLiterals ls ts rest → AreNamed ts → AreNamed rest
literals_rest is_last_literal h = h
literals_rest (is_literal_and_more ls) h = literals_rest ls h

rows_rest : {rows : List SurfaceRow} {ts rest : List Token} → AreRows rows ts rest → AreNamed ts → AreNamed rest
rows_rest are_no_rows h = h
rows_rest (are_rows keys values rows) h = rows_rest rows (literals_rest values (literals_rest keys h))

-- ## What a part declares, and what stands behind it

names_named : {words : List (List ℕ)} {ts rest : List Token} → AreNames words ts rest → AreNamed ts → AllByRecursion IsName words × AreNamed rest
names_named are_no_names h = (tt, h)
names_named (are_names ws) h = let more = names_named ws h.1 in ((h.0, more.0), more.1)

mutual
  stmt_named : {s : SurfaceStmt} {ts rest : List Token} → IsStmt s ts rest → AreNamed ts → HasStmtNames s × AreNamed rest
  stmt_named (is_let e) h = (h.0, expr_rest e h.1)
  stmt_named (is_assign e) h = (tt, expr_rest e h.1)
  stmt_named (is_set_field e) h = (tt, expr_rest e h)
  stmt_named (is_look into keys) h = let more = names_named into h.1 in ((h.0, more.0), keys_rest keys more.1.1)
  stmt_named (is_put keys values) h = (h.0, exprs_rest values (keys_rest keys h.1.1))
  stmt_named (is_del keys) h = (h.0, keys_rest keys h.1.1)
  stmt_named (is_if cond first second) h =
      let a = body_named first (expr_rest cond h) in
      let b = else_named second a.1 in
      ((a.0, b.0), b.1)
  stmt_named (is_repeat b) h = let inner = body_named b h.1 in ((h.0, inner.0), inner.1)
  stmt_named (is_send e) h = (tt, expr_rest e h)
  stmt_named is_drop h = (tt, h)

  else_named : {b : SurfaceBody} {ts rest : List Token} → IsElse b ts rest → AreNamed ts → HasBodyNames b × AreNamed rest
  else_named is_absent h = (tt, h)
  else_named (is_else b) h = body_named b h

  body_named : {b : SurfaceBody} {ts rest : List Token} → IsBody b ts rest → AreNamed ts → HasBodyNames b × AreNamed rest
  body_named is_end h = (tt, h)
  body_named (is_more s b) h =
      let first = stmt_named s h in
      let rest = body_named b first.1 in
      ((first.0, rest.0), rest.1)

decl_named : {d : SurfaceDecl} {ts rest : List Token} → IsDecl d ts rest → AreNamed ts → IsName (declared_name d) × AreNamed rest
decl_named (is_table keys values rows) h = (h.0, rows_rest rows (widths_rest values (widths_rest keys h.1)))
decl_named (is_map keys values) h = (h.0, widths_rest values (widths_rest keys h.1))
decl_named (is_vector values) h = (h.0, widths_rest values h.1)
decl_named is_int h = (h.0, h.1)

middlebox_named : {ds : List Declared} {b : SurfaceBody} {ts rest : List Token} → IsMiddlebox ds b ts rest → AreNamed ts
    → AllByRecursion (λ (d : Declared). IsName (declared_name d.decl)) ds × HasBodyNames b
middlebox_named (is_process b) h = (tt, (body_named b h).0)
middlebox_named (is_declared d m) h =
    let first = decl_named d h in
    let rest = middlebox_named m first.1 in
    ((first.0, rest.0), rest.1)

pub spelled_names : {ts : List Token} (s : Surface) → Spells ts s → AreNamed ts → HasSurfaceNames s
spelled_names s h named = let parts = middlebox_named h named in record { objects = parts.0; body = parts.1 }
