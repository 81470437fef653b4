-- How deep brackets stand in printed tokens.
use Rattle.std.proofs.Common.{◌≡◌, ◌≤◌, ℕ, suc, ◌+◌, ◌-◌, max, Bool, true, false, List, [], ◌∷◌, ◌++◌, map, refl, sym, ap, ◌∙◌, arith, append_assoc, append-nil}
use Rattle.gal_bits.specs.declared.op.Op.{Op}
use Rattle.gal_bits.specs.declared.op.Op.TheVariants as ops
use Rattle.state_store.specs.declared.object.Kind.{Kind}
use Rattle.state_store.specs.declared.object.Kind.TheVariants.{Table, Map, Vector, Int}
use Rattle.state_store.specs.declared.object.Row.{Row}
use Rattle.state_store.specs.declared.object.ObjectDecl.{ObjectDecl}
use Rattle.element_lang.specs.declared.mark.Mark.{Mark}
use Rattle.element_lang.specs.declared.mark.Mark.TheVariants as marks
use Rattle.element_lang.specs.Accepted.{open_after, deepest}
use Rattle.element_lang.specs.Token.{Token, fixed, number}
use Rattle.element_lang.specs.Token as tokens
use Rattle.element_lang.specs.Tree.{ExprTree, Exprs, StmtTree, BodyTree, Tree}
use Rattle.element_lang.specs.Tree.ExprTree.{lit, local, field, byte, shift, apply}
use Rattle.element_lang.specs.Tree.Exprs.{no_expr, expr}
use Rattle.element_lang.specs.Tree.StmtTree.{let_local, assign, set_field, look, put, del, choose, repeat, send, drop}
use Rattle.element_lang.specs.Tree.BodyTree.{done, stmt}
use Rattle.element_lang.specs.Surface.{named_expr, named_exprs, named_stmt, named_body, named_row, named_as, named_decl, named, local_name, object_name, literals}
use Rattle.element_print.specs.declared.place.Place.{Place}
use Rattle.element_print.specs.declared.place.Place.TheVariants.{Whole, Operand, Turned}
use Rattle.element_print.specs.Printed.{in_brackets_if, in_brackets, in_braces, behind_each, joined, mark_of, needs_brackets, expr_tokens, parts, part, exprs_tokens, keyed, else_tokens, stmt_tokens, body_tokens, widths_tokens, literal_tokens, literals_tokens, rows_tokens, decl_tokens, decls_tokens, print_tokens}
use Rattle.element_print.specs.Lengths.{nameless}
use Rattle.element_print.specs.Depths.{within_if, expr_depth, parts_depth, keyed_depth, stmt_depth, body_depth, rows_depth, depth_as, decls_depth, text_depth}
use Rattle.element_print.proofs.TextLengths.{same_brackets}

-- Tokens that close the brackets that they open, of which so many are open at once, whatever stands before and after.
record IsNested (ts : List Token) (depth : ℕ) : Type 0 where
  pub within : (n : ℕ) (us : List Token) → deepest n (ts ++ us) ≡ max (n + depth) (deepest n us)

-- no bracket
abbrev IsPlain : Token → Type 0
IsPlain t = (n : ℕ) → open_after t n ≡ n

at_least : (n : ℕ) (ts : List Token) → n ≤ deepest n ts
at_least n [] = omega arith
at_least n (t ∷ ts) = omega arith

none : IsNested [] 0
none = record { within = λ n us. omega (arith, at_least n us) }

nested_as : {ts : List Token} {d e : ℕ} → IsNested ts d → d ≡ e → IsNested ts e
nested_as {ts} {d} {e} h is = record { within = λ n us. omega (arith, h.within n us, is) }

-- one list of tokens behind another
both : {ts us : List Token} {d e : ℕ} → IsNested ts d → IsNested us e → IsNested (ts ++ us) (max d e)
both {ts} {us} {d} {e} h k = record { within = λ n vs. omega (arith, ap (deepest n) (append_assoc ts us vs), h.within n (us ++ vs), k.within n vs) }

-- one token more in front, which is no bracket, and the same without it
more : {t : Token} {ts : List Token} {d : ℕ} → IsPlain t → IsNested ts d → IsNested (t ∷ ts) d
more {t} {ts} {d} plain h = record {
  within = λ n us. omega (arith, ap (λ k. deepest k (ts ++ us)) (plain n), h.within n us, at_least n (ts ++ us));
}

less : {t : Token} {ts : List Token} {d : ℕ} → IsPlain t → IsNested (t ∷ ts) d → IsNested ts d
less {t} {ts} {d} plain h = record {
  within = λ n us. omega (arith, ap (λ k. deepest k (ts ++ us)) (plain n), h.within n us, at_least n (ts ++ us));
}

-- tokens and one more that is no bracket
closed : (t : Token) {ts : List Token} {d : ℕ} → IsPlain t → IsNested ts d → IsNested (ts ++ t ∷ []) d
closed t {ts} {d} plain h = nested_as (both h (more plain none)) (omega arith)

-- within a pair of brackets
deeper : (begin end : Token) {ts : List Token} {d : ℕ} → ((n : ℕ) → open_after begin n ≡ n + 1) → ((n : ℕ) → open_after end (n + 1) ≡ n)
    → IsNested ts d → IsNested (begin ∷ (ts ++ end ∷ [])) (suc d)
deeper begin end {ts} {d} opens closes h = record {
  within = λ n us.
      let first : deepest (open_after begin n) ((ts ++ end ∷ []) ++ us)
      ≡ deepest (n + 1) (ts ++ end ∷ us) = ap (λ k. deepest k ((ts ++ end ∷ []) ++ us)) (opens n) ∙ ap (deepest (n + 1)) (append_assoc ts (end ∷ []) us) in
      let last : deepest (open_after end (n + 1)) us ≡ deepest n us = ap (λ k. deepest k us) (closes n) in
      omega (arith, first, last, h.within (n + 1) (end ∷ us));
}

closes : (n : ℕ) → (n + 1) - 1 ≡ n
closes n = omega arith

enclosed : {ts : List Token} {d : ℕ} → IsNested ts d → IsNested (in_brackets ts) (suc d)
enclosed h = deeper _ _ (λ n. refl) closes h

braced : {ts : List Token} {d : ℕ} → IsNested ts d → IsNested (in_braces ts) (suc d)
braced h = deeper _ _ (λ n. refl) closes h

enclosed_if : (b : Bool) {ts : List Token} {d : ℕ} → IsNested ts d → IsNested (in_brackets_if b ts) (within_if b d)
enclosed_if true h = enclosed h
enclosed_if false h = h

joined_nested : (m : Mark) (ps : List (List Token)) (d : ℕ) → IsPlain (fixed m) → IsNested (behind_each m ps) d → IsNested (joined m ps) d
joined_nested m [] d plain h = h
joined_nested m (p ∷ ps) d plain h = less plain h

plain_mark : (op : Op) → IsPlain (fixed (mark_of op))
plain_mark ops.Add n = refl
plain_mark _ n = refl

-- ## Expressions

part_nested : (m : Tree) (place : Place) (e : ExprTree) → IsNested (expr_tokens (named_expr m e)) (expr_depth e)
    → IsNested (part place (named_expr m e)) (within_if (needs_brackets place (nameless e)) (expr_depth e))
part_nested m place e h =
    nested_as (enclosed_if (needs_brackets place (named_expr m e)) h) (ap (λ b. within_if b (expr_depth e)) (sym (same_brackets m place e)))

list_nested : (m : Tree) (place : Place) (mark : Mark) (es : Exprs) → IsPlain (fixed mark)
    → IsNested (behind_each mark (parts place (named_exprs m es))) (parts_depth place es)
    → IsNested (joined mark (parts place (named_exprs m es))) (parts_depth place es)
list_nested m place mark es plain h = joined_nested mark (parts place (named_exprs m es)) (parts_depth place es) plain h

mutual
  expr_nested : (m : Tree) (e : ExprTree) → IsNested (expr_tokens (named_expr m e)) (expr_depth e)
  expr_nested m (lit value width) = more (λ n. refl) (more (λ n. refl) (more (λ n. refl) none))
  expr_nested m (local x) = more (λ n. refl) none
  expr_nested m (field f) = more (λ n. refl) none
  expr_nested m (byte index) = more (λ n. refl) (enclosed (expr_nested m index))
  expr_nested m (shift op by arg) =
      nested_as (both (part_nested m Operand arg (expr_nested m arg)) (more (plain_mark op) (more {t = number by} (λ n. refl) none))) (omega arith)
  expr_nested m (apply ops.Not width args) =
      more (λ n. refl) (list_nested m Turned marks.Comma args (λ n. refl) (all_nested m Turned marks.Comma args (λ n. refl)))
  expr_nested m (apply ops.Cast width args) =
      more (λ n. refl) (enclosed (more {t = number width} (λ n. refl) (all_nested m Whole marks.Comma args (λ n. refl))))
  expr_nested m (apply ops.Select width args) =
      more (λ n. refl) (enclosed (list_nested m Whole marks.Comma args (λ n. refl) (all_nested m Whole marks.Comma args (λ n. refl))))
  expr_nested m (apply ops.Adjust width args) =
      more (λ n. refl) (enclosed (list_nested m Whole marks.Comma args (λ n. refl) (all_nested m Whole marks.Comma args (λ n. refl))))
  expr_nested m (apply op width args) = list_nested m Operand (mark_of op) args (plain_mark op) (all_nested m Operand (mark_of op) args (plain_mark op))

  all_nested : (m : Tree) (place : Place) (mark : Mark) (es : Exprs) → IsPlain (fixed mark)
      → IsNested (behind_each mark (parts place (named_exprs m es))) (parts_depth place es)
  all_nested m place mark no_expr plain = none
  all_nested m place mark (expr e es) plain = more plain (both (part_nested m place e (expr_nested m e)) (all_nested m place mark es plain))

exprs_nested : (m : Tree) (es : Exprs) → IsNested (exprs_tokens (named_exprs m es)) (parts_depth Whole es)
exprs_nested m es = list_nested m Whole marks.Comma es (λ n. refl) (all_nested m Whole marks.Comma es (λ n. refl))

-- ## Statements

-- a value, and the end of its statement
value_nested : (m : Tree) (e : ExprTree) → IsNested (expr_tokens (named_expr m e) ++ fixed marks.Semicolon ∷ []) (expr_depth e)
value_nested m e = closed _ (λ n. refl) (expr_nested m e)

keyed_nested : (m : Tree) (x : ℕ) (keys : Exprs) → IsNested (keyed (object_name m x) (named_exprs m keys)) (keyed_depth keys)
keyed_nested m x keys = more (λ n. refl) (deeper _ _ (λ n. refl) closes (exprs_nested m keys))

-- a key, and the end of its statement
behind_key : (m : Tree) (x : ℕ) (keys : Exprs)
    → IsNested (fixed marks.Assign ∷ (keyed (object_name m x) (named_exprs m keys) ++ fixed marks.Semicolon ∷ [])) (keyed_depth keys)
behind_key m x keys = more (λ n. refl) (closed _ (λ n. refl) (keyed_nested m x keys))

names_nested : (m : Tree) (xs : List ℕ) → IsNested (behind_each marks.Comma (map (λ word. tokens.name word ∷ []) (map (local_name m) xs))) 0
names_nested m [] = none
names_nested m (x ∷ xs) = more (λ n. refl) (more (λ n. refl) (names_nested m xs))

-- both blocks of an `if`
blocks_nested : (m : Tree) (first second : BodyTree) → IsNested (body_tokens (named_body m first)) (body_depth first)
    → IsNested (body_tokens (named_body m second)) (body_depth second)
    → IsNested (in_braces (body_tokens (named_body m first)) ++ else_tokens (named_body m second) (body_tokens (named_body m second)))
    (suc (max (body_depth first) (body_depth second)))
blocks_nested m first done h k = nested_as (both (braced h) none) (omega arith)
blocks_nested m first (stmt s b) h k = nested_as (both (braced h) (more {t = fixed marks.Else} (λ n. refl) (braced k))) (omega arith)

mutual
  stmt_nested : (m : Tree) (s : StmtTree) → IsNested (stmt_tokens (named_stmt m s)) (stmt_depth s)
  stmt_nested m (let_local x value) = more (λ n. refl) (more (λ n. refl) (more (λ n. refl) (value_nested m value)))
  stmt_nested m (assign x value) = more (λ n. refl) (more (λ n. refl) (value_nested m value))
  stmt_nested m (set_field f value) = more (λ n. refl) (more (λ n. refl) (value_nested m value))
  stmt_nested m (look found into object keys) =
      more (λ n. refl) (more (λ n. refl) (nested_as (both (names_nested m into) (behind_key m object keys)) (omega arith)))
  stmt_nested m (put ok object keys values) =
      let stored = more {t = fixed marks.Arrow} (λ n. refl) (closed (fixed marks.Semicolon) (λ n. refl) (exprs_nested m values)) in
      more (λ n. refl) (more (λ n. refl) (more (λ n. refl) (both (keyed_nested m object keys) stored)))
  stmt_nested m (del was object keys) = more (λ n. refl) (more (λ n. refl) (behind_key m object keys))
  stmt_nested m (choose cond first second) =
      more (λ n. refl) (both (expr_nested m cond) (blocks_nested m first second (body_nested m first) (body_nested m second)))
  stmt_nested m (repeat index count body) = more (λ n. refl) (more (λ n. refl) (more (λ n. refl) (braced (body_nested m body))))
  stmt_nested m (send port) = more (λ n. refl) (value_nested m port)
  stmt_nested m drop = more (λ n. refl) (more (λ n. refl) none)

  body_nested : (m : Tree) (b : BodyTree) → IsNested (body_tokens (named_body m b)) (body_depth b)
  body_nested m done = none
  body_nested m (stmt s b) = both (stmt_nested m s) (body_nested m b)

-- ## Declarations

numbers_nested : (ws : List ℕ) → IsNested (behind_each marks.Comma (map (λ w. number w ∷ []) ws)) 0
numbers_nested [] = none
numbers_nested (w ∷ ws) = more (λ n. refl) (more (λ n. refl) (numbers_nested ws))

widths_nested : (ws : List ℕ) → IsNested (widths_tokens ws) 1
unfolding widths_tokens
widths_nested ws = enclosed (joined_nested marks.Comma (map (λ w. number w ∷ []) ws) 0 (λ n. refl) (numbers_nested ws))

literal_list_nested : (ws ns : List ℕ) → IsNested (behind_each marks.Comma (map literal_tokens (literals ws ns))) 0
literal_list_nested ws [] = none
literal_list_nested [] (n ∷ ns) = more (λ n. refl) (more (λ n. refl) (more (λ n. refl) (more (λ n. refl) (literal_list_nested [] ns))))
literal_list_nested (w ∷ ws) (n ∷ ns) = more (λ n. refl) (more (λ n. refl) (more (λ n. refl) (more (λ n. refl) (literal_list_nested ws ns))))

literals_nested : (ws ns : List ℕ) → IsNested (literals_tokens (literals ws ns)) 1
unfolding literals_tokens
literals_nested ws ns = enclosed (joined_nested marks.Comma (map literal_tokens (literals ws ns)) 0 (λ n. refl) (literal_list_nested ws ns))

-- rows, within their braces
abbrev depth_within : List Row → ℕ
depth_within [] = 0
depth_within (r ∷ rs) = 1

at_most_one : (rs : List Row) → depth_within rs ≤ 1
at_most_one [] = omega arith
at_most_one (r ∷ rs) = omega arith

one_more : (rs : List Row) → suc (depth_within rs) ≡ rows_depth rs
one_more [] = refl
one_more (r ∷ rs) = refl

rows_nested : (keys values : List ℕ) (rows : List Row) → IsNested (rows_tokens (map (named_row keys values) rows)) (depth_within rows)
rows_nested keys values [] = none
rows_nested keys values (r ∷ rows) =
    let behind = both (literals_nested values r.values) (more {t = fixed marks.Semicolon} (λ n. refl) (rows_nested keys values rows)) in
    nested_as (both (literals_nested keys r.keys) (more {t = fixed marks.Arrow} (λ n. refl) behind)) (omega (arith, at_most_one rows))

-- widths of keys and values, and what stands after them
widths_behind : (keys values : List ℕ) {ts : List Token} {d e : ℕ} → IsNested ts d → max 1 d ≡ e
    → IsNested (widths_tokens keys ++ fixed marks.Arrow ∷ (widths_tokens values ++ ts)) e
widths_behind keys values h is =
    nested_as (both (widths_nested keys) (more {t = fixed marks.Arrow} (λ n. refl) (both (widths_nested values) h))) (omega (arith, is))

kind_nested : (kind : Kind) (o : ObjectDecl) → IsNested (decl_tokens (named_as kind o)) (depth_as kind o)
kind_nested Table o =
    more (λ n. refl) (more (λ n. refl) (widths_behind o.keys o.values (braced (rows_nested o.keys o.values o.rows)) (omega (arith, one_more o.rows))))
kind_nested Map o = more (λ n. refl) (more (λ n. refl) (widths_behind o.keys o.values (more (λ n. refl) (more (λ n. refl) (more (λ n. refl) none))) refl))
kind_nested Vector o =
    more (λ n. refl) (more (λ n. refl) (more (λ n. refl) (more (λ n. refl) (more (λ n. refl) (closed _ (λ n. refl) (widths_nested o.values))))))
kind_nested Int o = record { within = λ n us. omega (arith, at_least n us) }

decls_nested : (os : List ObjectDecl) → IsNested (decls_tokens (map (λ o. record { at = 0; decl = named_decl o }) os)) (decls_depth os)
decls_nested [] = none
decls_nested (o ∷ os) = both (kind_nested o.kind o) (decls_nested os)

-- ## The whole

whole_nested : (m : Tree) → IsNested (print_tokens (named m)) (text_depth m)
whole_nested m = both (decls_nested m.objects) (more (λ n. refl) (braced (body_nested m m.body)))

pub whole_depth : (m : Tree) → deepest 0 (print_tokens (named m)) ≡ text_depth m
whole_depth m = omega (arith, ap (deepest 0) (sym (append-nil (print_tokens (named m)))), (whole_nested m).within 0 [])
