-- How many bytes printed tokens have.
use Rattle.std.proofs.Common.{◌≡◌, ℕ, zero, suc, ◌+◌, ◌-◌, ◌*◌, Bool, true, false, ◌||◌, List, [], ◌∷◌, ◌++◌, map, length, slice_index, slice_get, refl, sym, ap, ◌∙◌, arith, length-append, append_assoc}
use Rattle.std.proofs.Math.Nat.{suc-mul, zero-mul}
use Rattle.gal_bits.specs.declared.op.Op.TheVariants as ops
use Rattle.packet_fields.specs.declared.field.Field.{Field}
use Rattle.packet_fields.specs.declared.field.Field.TheVariants.{MetaPort}
use Rattle.state_store.specs.declared.object.Kind.{Kind}
use Rattle.state_store.specs.declared.object.Kind.TheVariants.{Table, Map, Vector, Int}
use Rattle.state_store.specs.declared.object.Row.{Row}
use Rattle.state_store.specs.declared.object.ObjectDecl.{ObjectDecl}
use Rattle.element_lang.specs.declared.mark.Mark.{Mark}
use Rattle.element_lang.specs.declared.mark.Mark.TheVariants as marks
use Rattle.element_lang.specs.declared.tree.Local.{Local}
use Rattle.element_lang.specs.Rules.{count_of, is_empty}
use Rattle.element_lang.specs.Token.{Token, fixed, number}
use Rattle.element_lang.specs.Token as tokens
use Rattle.element_lang.specs.Tree.{ExprTree, Exprs, StmtTree, BodyTree, Tree}
use Rattle.element_lang.specs.Tree.ExprTree.{lit, local, field, byte, shift, apply}
use Rattle.element_lang.specs.Tree.Exprs.{no_expr, expr}
use Rattle.element_lang.specs.Tree.StmtTree.{let_local, assign, set_field, look, put, del, choose, repeat, send, drop}
use Rattle.element_lang.specs.Tree.BodyTree.{done, stmt}
use Rattle.element_lang.specs.Surface.{named_expr, named_exprs, named_stmt, named_body, named_row, named_as, named_decl, named, local_name, name_of_local, name_of_object, literals}
use Rattle.element_print.specs.declared.place.Place.{Place}
use Rattle.element_print.specs.declared.place.Place.TheVariants.{Whole, Operand, Turned}
use Rattle.element_print.specs.Printed.{token_text, text_of, in_brackets_if, in_brackets, in_braces, behind_each, joined, mark_of, needs_brackets, has_infix, is_turned, expr_tokens, parts, part, exprs_tokens, else_tokens, stmt_tokens, body_tokens, widths_tokens, literal_tokens, literals_tokens, rows_tokens, decl_tokens, decls_tokens, print_tokens}
use Rattle.element_print.specs.Spaced.{spaced}
use Rattle.element_print.specs.Lengths.{lengths_of, nameless, mark_length, field_length, brackets_length, between_length, read_length, expr_length, parts_length, exprs_length, names_length, braces_length, else_length, stmt_length, body_length, widths_sum, widths_length, literals_sum, literals_length, rows_length, length_as, decls_length, text_length}
use Rattle.element_print.proofs.Spaces.{spaced_end}

-- the bytes of tokens, each with the one that stands after it
abbrev pub bytes_of : List Token → ℕ
bytes_of [] = 0
bytes_of (t ∷ ts) = suc (length (token_text t)) + bytes_of ts

spaced_bytes : (ts : List Token) → length (spaced ts) ≡ bytes_of ts
unfolding spaced
spaced_bytes [] = refl
spaced_bytes (t ∷ ts) = omega (arith, length-append (token_text t) (32 ∷ spaced ts), spaced_bytes ts)

bytes_append : (ts us : List Token) → bytes_of (ts ++ us) ≡ bytes_of ts + bytes_of us
bytes_append [] us = omega arith
bytes_append (t ∷ ts) us = omega (arith, bytes_append ts us)

-- an LF stands in place of the last blank
text_bytes : (ts : List Token) (t : Token) → length (text_of (ts ++ t ∷ [])) ≡ bytes_of (ts ++ t ∷ [])
text_bytes ts t =
    omega (
      arith,
      ap length (spaced_end ts t),
      length-append (spaced ts) (token_text t ++ 10 ∷ []),
      length-append (token_text t) (10 ∷ []),
      spaced_bytes ts,
      bytes_append ts (t ∷ []),
    )

-- ## Brackets, and marks between parts

enclosed : (ts : List Token) → bytes_of (in_brackets ts) ≡ brackets_length true + bytes_of ts
enclosed ts = omega (arith, bytes_append ts (fixed marks.RightParen ∷ []))

braced : (ts : List Token) → bytes_of (in_braces ts) ≡ braces_length + bytes_of ts
braced ts = omega (arith, bytes_append ts (fixed marks.RightBrace ∷ []))

enclosed_if : (b : Bool) (ts : List Token) → bytes_of (in_brackets_if b ts) ≡ brackets_length b + bytes_of ts
enclosed_if true ts = enclosed ts
enclosed_if false ts = omega arith

-- the bytes of parts, without what stands between two of them
abbrev pub bytes_in : List (List Token) → ℕ
bytes_in [] = 0
bytes_in (p ∷ ps) = bytes_of p + bytes_in ps

behind_bytes : (m : Mark) (ps : List (List Token)) → bytes_of (behind_each m ps) ≡ bytes_in ps + length ps * mark_length m
behind_bytes m [] = sym (zero-mul (mark_length m)) ∙ omega arith
behind_bytes m (p ∷ ps) = simp bytes_append (omega (arith, behind_bytes m ps, suc-mul (length ps) (mark_length m)))

joined_bytes : (m : Mark) (ps : List (List Token)) → bytes_of (joined m ps) ≡ bytes_in ps + between_length m (length ps)
joined_bytes m [] = sym (zero-mul (mark_length m)) ∙ omega arith
joined_bytes m (p ∷ ps) =
    let less : suc (length ps) - 1 ≡ length ps = omega arith in
    simp bytes_append (omega (arith, behind_bytes m ps, ap (λ n. n * mark_length m) less))

-- the bytes of parts, of which there are so many with so many bytes
listed : (m : Mark) (ps : List (List Token)) (bytes count : ℕ) → bytes_in ps ≡ bytes → length ps ≡ count
    → bytes_of (joined m ps) ≡ bytes + between_length m count
listed m ps bytes count e f = omega (arith, joined_bytes m ps, ap (between_length m) f)

-- ## Names

local_bytes : (ls : List Local) (x : ℕ) → length (name_of_local (slice_get ls x)) ≡ slice_index (map (λ l. length l.name) ls) x
local_bytes [] x = refl
local_bytes (l ∷ ls) zero = refl
local_bytes (l ∷ ls) (suc x) = local_bytes ls x

object_bytes : (os : List ObjectDecl) (x : ℕ) → length (name_of_object (slice_get os x)) ≡ slice_index (map (λ o. length o.name) os) x
object_bytes [] x = refl
object_bytes (o ∷ os) zero = refl
object_bytes (o ∷ os) (suc x) = object_bytes os x

read_bytes : (m : Tree) (f : Field) → read_length (lengths_of m) f ≡ field_length f
read_bytes m MetaPort = refl
read_bytes m _ = refl

-- ## Expressions

-- names don't matter to brackets
same_infix : (m : Tree) (e : ExprTree) → has_infix (nameless e) ≡ has_infix (named_expr m e)
same_infix m (lit value width) = refl
same_infix m _ = refl

same_turned : (m : Tree) (e : ExprTree) → is_turned (nameless e) ≡ is_turned (named_expr m e)
same_turned m (lit value width) = refl
same_turned m _ = refl

pub same_brackets : (m : Tree) (place : Place) (e : ExprTree) → needs_brackets place (nameless e) ≡ needs_brackets place (named_expr m e)
same_brackets m Whole e = refl
same_brackets m Operand e = same_infix m e
same_brackets m Turned e = ap (λ b. b || is_turned (nameless e)) (same_infix m e) ∙ ap (λ b. has_infix (named_expr m e) || b) (same_turned m e)

pub same_count : (m : Tree) (place : Place) (es : Exprs) → length (parts place (named_exprs m es)) ≡ count_of es
same_count m place no_expr = refl
same_count m place (expr e es) = ap suc (same_count m place es)

part_bytes : (m : Tree) (place : Place) (e : ExprTree) (bytes : ℕ) → bytes_of (expr_tokens (named_expr m e)) ≡ bytes
    → bytes_of (part place (named_expr m e)) ≡ brackets_length (needs_brackets place (nameless e)) + bytes
part_bytes m place e bytes h =
    omega (arith, enclosed_if (needs_brackets place (named_expr m e)) (expr_tokens (named_expr m e)), ap brackets_length (same_brackets m place e), h)

list_bytes : (m : Tree) (place : Place) (mark : Mark) (es : Exprs) → bytes_in (parts place (named_exprs m es)) ≡ parts_length (lengths_of m) place es
    → bytes_of (joined mark (parts place (named_exprs m es))) ≡ parts_length (lengths_of m) place es + between_length mark (count_of es)
list_bytes m place mark es h = listed mark (parts place (named_exprs m es)) (parts_length (lengths_of m) place es) (count_of es) h (same_count m place es)

mutual
  pub expr_bytes : (m : Tree) (e : ExprTree) → bytes_of (expr_tokens (named_expr m e)) ≡ expr_length (lengths_of m) e
  expr_bytes m (lit value width) = omega arith
  expr_bytes m (local x) = omega (arith, local_bytes m.locals x)
  expr_bytes m (field f) = omega (arith, read_bytes m f)
  expr_bytes m (byte index) = omega (arith, enclosed (expr_tokens (named_expr m index)), expr_bytes m index)
  expr_bytes m (shift op by arg) = simp bytes_append (omega (arith, part_bytes m Operand arg (expr_length (lengths_of m) arg) (expr_bytes m arg)))
  expr_bytes m (apply ops.Not width args) = omega (arith, list_bytes m Turned marks.Comma args (all_bytes m Turned args))
  expr_bytes m (apply ops.Cast width args) =
      let ps : List (List Token) = parts Whole (named_exprs m args) in
      let between = ap (λ n. n * mark_length marks.Comma) (same_count m Whole args) in
      omega (arith, enclosed (number width ∷ behind_each marks.Comma ps), behind_bytes marks.Comma ps, all_bytes m Whole args, between)
  expr_bytes m (apply ops.Select width args) =
      omega (arith, enclosed (exprs_tokens (named_exprs m args)), list_bytes m Whole marks.Comma args (all_bytes m Whole args))
  expr_bytes m (apply ops.Adjust width args) =
      omega (arith, enclosed (exprs_tokens (named_exprs m args)), list_bytes m Whole marks.Comma args (all_bytes m Whole args))
  expr_bytes m (apply op width args) = list_bytes m Operand (mark_of op) args (all_bytes m Operand args)

  pub all_bytes : (m : Tree) (place : Place) (es : Exprs) → bytes_in (parts place (named_exprs m es)) ≡ parts_length (lengths_of m) place es
  all_bytes m place no_expr = refl
  all_bytes m place (expr e es) =
      omega (arith, part_bytes m place e (expr_length (lengths_of m) e) (expr_bytes m e), all_bytes m place es)

exprs_bytes : (m : Tree) (es : Exprs) → bytes_of (exprs_tokens (named_exprs m es)) ≡ exprs_length (lengths_of m) es
exprs_bytes m es = list_bytes m Whole marks.Comma es (all_bytes m Whole es)

-- ## Statements

names_bytes : (m : Tree) (xs : List ℕ)
    → bytes_of (behind_each marks.Comma (map (λ word. tokens.name word ∷ []) (map (local_name m) xs))) ≡ names_length (lengths_of m) xs
names_bytes m [] = refl
names_bytes m (x ∷ xs) = omega (arith, local_bytes m.locals x, names_bytes m xs)

else_bytes : (m : Tree) (b : BodyTree) (bytes : ℕ) → bytes_of (body_tokens (named_body m b)) ≡ bytes
    → bytes_of (else_tokens (named_body m b) (body_tokens (named_body m b))) ≡ else_length (is_empty b) + bytes
else_bytes m done bytes h = omega (arith, h)
else_bytes m (stmt s b) bytes h = omega (arith, braced (body_tokens (named_body m (stmt s b))), h)

mutual
  stmt_bytes : (m : Tree) (s : StmtTree) → bytes_of (stmt_tokens (named_stmt m s)) ≡ stmt_length (lengths_of m) s
  stmt_bytes m (let_local x value) = simp bytes_append (omega (arith, local_bytes m.locals x, expr_bytes m value))
  stmt_bytes m (assign x value) = simp bytes_append (omega (arith, local_bytes m.locals x, expr_bytes m value))
  stmt_bytes m (set_field f value) = simp bytes_append (omega (arith, expr_bytes m value))
  stmt_bytes m (look found into object keys) =
      simp bytes_append (omega (arith, local_bytes m.locals found, names_bytes m into, object_bytes m.objects object, exprs_bytes m keys))
  stmt_bytes m (put ok object keys values) =
      simp bytes_append (omega (arith, local_bytes m.locals ok, object_bytes m.objects object, exprs_bytes m keys, exprs_bytes m values))
  stmt_bytes m (del was object keys) = simp bytes_append (omega (arith, local_bytes m.locals was, object_bytes m.objects object, exprs_bytes m keys))
  stmt_bytes m (choose cond first second) =
      simp bytes_append (omega (arith, expr_bytes m cond, body_bytes m first, else_bytes m second (body_length (lengths_of m) second) (body_bytes m second)))
  stmt_bytes m (repeat index count body) = simp bytes_append (omega (arith, local_bytes m.locals index, body_bytes m body))
  stmt_bytes m (send port) = simp bytes_append (omega (arith, expr_bytes m port))
  stmt_bytes m drop = refl

  pub body_bytes : (m : Tree) (b : BodyTree) → bytes_of (body_tokens (named_body m b)) ≡ body_length (lengths_of m) b
  body_bytes m done = refl
  body_bytes m (stmt s b) = simp bytes_append (omega (arith, stmt_bytes m s, body_bytes m b))

-- ## Declarations

number_bytes : (ws : List ℕ) → bytes_in (map (λ w. number w ∷ []) ws) ≡ widths_sum ws
number_bytes [] = refl
number_bytes (w ∷ ws) = omega (arith, number_bytes ws)

number_count : (ws : List ℕ) → length (map (λ (w : ℕ). number w ∷ []) ws) ≡ length ws
number_count [] = refl
number_count (w ∷ ws) = ap suc (number_count ws)

widths_bytes : (ws : List ℕ) → bytes_of (widths_tokens ws) ≡ widths_length ws
unfolding widths_tokens
widths_bytes ws =
    let ps : List (List Token) = map (λ w. number w ∷ []) ws in
    omega (arith, enclosed (joined marks.Comma ps), listed marks.Comma ps (widths_sum ws) (length ws) (number_bytes ws) (number_count ws))

literal_bytes : (ws ns : List ℕ) → bytes_in (map literal_tokens (literals ws ns)) ≡ literals_sum ws ns
literal_bytes ws [] = refl
literal_bytes [] (n ∷ ns) = omega (arith, literal_bytes [] ns)
literal_bytes (w ∷ ws) (n ∷ ns) = omega (arith, literal_bytes ws ns)

literal_count : (ws ns : List ℕ) → length (map literal_tokens (literals ws ns)) ≡ length ns
literal_count ws [] = refl
literal_count [] (n ∷ ns) = ap suc (literal_count [] ns)
literal_count (w ∷ ws) (n ∷ ns) = ap suc (literal_count ws ns)

literals_bytes : (ws ns : List ℕ) → bytes_of (literals_tokens (literals ws ns)) ≡ literals_length ws ns
unfolding literals_tokens
literals_bytes ws ns =
    let ps : List (List Token) = map literal_tokens (literals ws ns) in
    omega (arith, enclosed (joined marks.Comma ps), listed marks.Comma ps (literals_sum ws ns) (length ns) (literal_bytes ws ns) (literal_count ws ns))

rows_bytes : (keys values : List ℕ) (rows : List Row) → bytes_of (rows_tokens (map (named_row keys values) rows)) ≡ rows_length keys values rows
rows_bytes keys values [] = refl
rows_bytes keys values (r ∷ rows) =
    simp bytes_append (omega (arith, literals_bytes keys r.keys, literals_bytes values r.values, rows_bytes keys values rows))

kind_bytes : (kind : Kind) (o : ObjectDecl) → bytes_of (decl_tokens (named_as kind o)) ≡ length o.name + length_as kind o
kind_bytes Table o = simp bytes_append (omega (arith, widths_bytes o.keys, widths_bytes o.values, rows_bytes o.keys o.values o.rows))
kind_bytes Map o = simp bytes_append (omega (arith, widths_bytes o.keys, widths_bytes o.values))
kind_bytes Vector o = simp bytes_append (omega (arith, widths_bytes o.values))
kind_bytes Int o = omega arith

decls_bytes : (os : List ObjectDecl) → bytes_of (decls_tokens (map (λ o. record { at = 0; decl = named_decl o }) os)) ≡ decls_length os
decls_bytes [] = refl
decls_bytes (o ∷ os) = simp bytes_append (omega (arith, kind_bytes o.kind o, decls_bytes os))

-- ## The whole

pub whole_bytes : (m : Tree) → length (text_of (print_tokens (named m))) ≡ text_length m
whole_bytes m =
    let decls : List Token = decls_tokens (map (λ o. record { at = 0; decl = named_decl o }) m.objects) in
    let body : List Token = body_tokens (named_body m m.body) in
    let but_last : List Token = decls ++ fixed marks.Process ∷ fixed marks.LeftBrace ∷ body in
    let same : but_last ++ fixed marks.RightBrace ∷ [] ≡ print_tokens (named m) = append_assoc decls (fixed marks.Process ∷ fixed marks.LeftBrace ∷ body) (fixed marks.RightBrace ∷ []) in
    let all : bytes_of (print_tokens (named m)) ≡ text_length m = simp bytes_append (omega (arith, decls_bytes m.objects, body_bytes m m.body)) in
    ap (λ ts. length (text_of ts)) (sym same) ∙ text_bytes but_last (fixed marks.RightBrace) ∙ ap bytes_of same ∙ all
