-- No spelling of a middlebox has fewer tokens than the printed one.
use Rattle.std.proofs.Common.{◌≡◌, ℕ, ◌+◌, ◌≤◌, List, [], ◌∷◌, ◌++◌, map, length, refl, sym, ap, ◌∙◌, arith, length-append}
use Rattle.element_lang.specs.declared.mark.Mark.TheVariants as marks
use Rattle.element_lang.specs.Token.{Token, fixed, number}
use Rattle.element_lang.specs.Token as tokens
use Rattle.element_lang.specs.Tree.{Tree}
use Rattle.element_lang.specs.Surface.{SurfaceStmt, SurfaceBody, Literal, SurfaceRow, SurfaceDecl, Declared, Surface, choose, repeat, done, stmt, unplaced_stmt, unplaced_body, unplaced_decl, unplaced, named}
use Rattle.element_lang.specs.Grammar.{AreNames, are_no_names, are_names, IsStmt, is_let, is_assign, is_set_field, is_look, is_put, is_del, is_if, is_repeat, is_send, is_drop, IsElse, is_absent, is_else, IsBody, is_end, is_more, AreWidths, is_last_width, is_width_and_more, AreLiterals, is_last_literal, is_literal_and_more, AreRows, are_no_rows, are_rows, IsDecl, is_table, is_map, is_vector, is_int, IsMiddlebox, is_process, is_declared}
use Rattle.element_print.specs.Printed.{expr_tokens, behind_each, in_braces, else_tokens, stmt_tokens, body_tokens, joined, widths_tokens, literal_tokens, literals_tokens, rows_tokens, decl_tokens, decls_tokens, print_tokens}
use Rattle.element_print.specs.ReadsBack.{IsSpelled}
use Rattle.element_print.proofs.Least.{expr_least, exprs_least, keys_least}

names_least : {words : List (List ℕ)} {ts rest : List Token} → AreNames words ts rest
    → length (behind_each marks.Comma (map (λ word. tokens.name word ∷ []) words)) + 1 + length rest ≤ length ts
names_least are_no_names = omega arith
names_least (are_names h) = omega (arith, names_least h)

else_length : (b : SurfaceBody) → length (else_tokens b (body_tokens b)) ≤ length (body_tokens b) + 3
else_length done = omega arith
else_length (stmt at s b) = simp length-append (omega arith)

mutual
  stmt_least : {s : SurfaceStmt} {ts rest : List Token} → IsStmt s ts rest → length (stmt_tokens s) + length rest ≤ length ts
  stmt_least (is_let h) = simp length-append (omega (arith, expr_least h))
  stmt_least (is_assign h) = simp length-append (omega (arith, expr_least h))
  stmt_least (is_set_field h) = simp length-append (omega (arith, expr_least h))
  stmt_least (is_look h k) = simp length-append (omega (arith, names_least h, keys_least k))
  stmt_least (is_put h k) = simp length-append (omega (arith, keys_least h, exprs_least k))
  stmt_least (is_del h) = simp length-append (omega (arith, keys_least h))
  stmt_least (is_if h f g) = simp length-append (omega (arith, expr_least h, body_least f, else_least g))
  stmt_least (is_repeat h) = simp length-append (omega (arith, body_least h))
  stmt_least (is_send h) = simp length-append (omega (arith, expr_least h))
  stmt_least is_drop = omega arith

  else_least : {b : SurfaceBody} {ts rest : List Token} → IsElse b ts rest → length (else_tokens b (body_tokens b)) + length rest ≤ length ts
  else_least is_absent = omega arith
  else_least (is_else {b = b} h) = omega (arith, body_least h, else_length b)

  body_least : {b : SurfaceBody} {ts rest : List Token} → IsBody b ts rest → length (body_tokens b) + 1 + length rest ≤ length ts
  body_least is_end = omega arith
  body_least (is_more h k) = simp length-append (omega (arith, stmt_least h, body_least k))

-- ## Declarations

behind_length : (ps : List (List Token)) → length (behind_each marks.Comma ps) ≤ length (joined marks.Comma ps) + 1
behind_length [] = omega arith
behind_length (p ∷ ps) = omega arith

widths_least : {ws : List ℕ} {ts rest : List Token} → AreWidths ws ts rest → length (widths_tokens ws) + length rest ≤ length ts + 1
unfolding widths_tokens
widths_least is_last_width = omega arith
widths_least (is_width_and_more {ws = ws} h) =
    simp length-append (omega (arith, simp length-append at (widths_least h), behind_length (map (λ w. number w ∷ []) ws)))

literals_least : {ls : List Literal} {ts rest : List Token} → AreLiterals ls ts rest → length (literals_tokens ls) + length rest ≤ length ts + 1
unfolding literals_tokens
literals_least is_last_literal = omega arith
literals_least (is_literal_and_more {ls = ls} h) =
    simp length-append (omega (arith, simp length-append at (literals_least h), behind_length (map literal_tokens ls)))

rows_least : {rows : List SurfaceRow} {ts rest : List Token} → AreRows rows ts rest → length (rows_tokens rows) + 1 + length rest ≤ length ts
rows_least are_no_rows = omega arith
rows_least (are_rows f g h) = simp length-append (omega (arith, literals_least f, literals_least g, rows_least h))

decl_least : {d : SurfaceDecl} {ts rest : List Token} → IsDecl d ts rest → length (decl_tokens d) + length rest ≤ length ts
decl_least (is_table f g h) = simp length-append (omega (arith, widths_least f, widths_least g, rows_least h))
decl_least (is_map f g) = simp length-append (omega (arith, widths_least f, widths_least g))
decl_least (is_vector h) = simp length-append (omega (arith, widths_least h))
decl_least is_int = omega arith

middlebox_least : {ds : List Declared} {b : SurfaceBody} {ts rest : List Token} → IsMiddlebox ds b ts rest
    → length (decls_tokens ds ++ fixed marks.Process ∷ in_braces (body_tokens b)) + length rest ≤ length ts
middlebox_least (is_process h) = simp length-append (omega (arith, body_least h))
middlebox_least (is_declared h k) = simp length-append (omega (arith, decl_least h, simp length-append at (middlebox_least k)))

-- ## Places leave no trace

same_else : (b : SurfaceBody) → body_tokens (unplaced_body b) ≡ body_tokens b
    → else_tokens (unplaced_body b) (body_tokens (unplaced_body b)) ≡ else_tokens b (body_tokens b)
same_else done e = refl
same_else (stmt at s b) e = ap (λ ts. fixed marks.Else ∷ in_braces ts) e

mutual
  same_stmt : (s : SurfaceStmt) → stmt_tokens (unplaced_stmt s) ≡ stmt_tokens s
  same_stmt (choose cond first second) =
      let one : List Token = expr_tokens cond in
      let two : List Token = else_tokens (unplaced_body second) (body_tokens (unplaced_body second)) in
      ap (λ ts. fixed marks.If ∷ (one ++ (in_braces ts ++ two))) (same_body first)
      ∙ ap (λ ts. fixed marks.If ∷ (one ++ (in_braces (body_tokens first) ++ ts))) (same_else second (same_body second))
  same_stmt (repeat index n body) = ap (λ ts. fixed marks.Repeat ∷ tokens.name index ∷ number n ∷ in_braces ts) (same_body body)
  same_stmt _ = refl

  same_body : (b : SurfaceBody) → body_tokens (unplaced_body b) ≡ body_tokens b
  same_body done = refl
  same_body (stmt at s b) = ap (λ ts. ts ++ body_tokens (unplaced_body b)) (same_stmt s) ∙ ap (λ ts. stmt_tokens s ++ ts) (same_body b)

same_decls : (ds : List Declared) → decls_tokens (map unplaced_decl ds) ≡ decls_tokens ds
same_decls [] = refl
same_decls (d ∷ ds) = ap (λ ts. decl_tokens d.decl ++ ts) (same_decls ds)

same_tokens : (s : Surface) → print_tokens (unplaced s) ≡ print_tokens s
same_tokens s =
    ap (λ ts. ts ++ fixed marks.Process ∷ in_braces (body_tokens (unplaced_body s.body))) (same_decls s.objects)
    ∙ ap (λ ts. decls_tokens s.objects ++ fixed marks.Process ∷ in_braces ts) (same_body s.body)

pub shortest : (m : Tree) (ts : List Token) → IsSpelled ts m → length (print_tokens (named m)) ≤ length ts
shortest m ts h =
    let same : print_tokens (named m) ≡ print_tokens h.surface = ap print_tokens (sym h.named) ∙ same_tokens h.surface in
    omega (arith, ap length same, middlebox_least h.spells)
