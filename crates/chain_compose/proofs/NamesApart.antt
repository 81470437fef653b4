-- The bytes of a body are those of the same body where locals have empty names, and those of these names.
use Rattle.std.proofs.Common.{◌≡◌, ◌≤◌, ℕ, ◌+◌, List, [], ◌∷◌, ◌++◌, length, arith, length-append}
use Rattle.element_lang.specs.Tree.{ExprTree, Exprs, StmtTree, BodyTree}
use Rattle.element_lang.specs.Tree.ExprTree.{byte, shift, apply}
use Rattle.element_lang.specs.Tree.Exprs.{no_expr, expr}
use Rattle.element_lang.specs.Tree.StmtTree.{let_local, assign, set_field, look, put, del, choose, repeat, send}
use Rattle.element_lang.specs.Tree.BodyTree.{done, stmt}
use Rattle.element_print.specs.declared.place.Place.{Place}
use Rattle.element_print.specs.declared.place.Place.TheVariants.{Whole}
use Rattle.element_print.specs.Lengths.{Lengths, expr_length, parts_length, exprs_length, keyed_length, names_length, head_length, stmt_length, body_length}
use Rattle.chain_compose.specs.declared.gauge.Gauge.TheVariants.{Locals, Uses}
use Rattle.chain_compose.specs.Counts.{used_by_expr, used_by_exprs, used_by_head, used_by, used_in, declares_once, stmt_count, body_count}
use Rattle.chain_compose.specs.Named.{names_sum}
use Rattle.chain_compose.proofs.Counted.{Joins, joins}

pub sum_append : (lengths xs ys : List ℕ) → names_sum lengths (xs ++ ys) ≡ names_sum lengths xs + names_sum lengths ys
sum_append lengths [] ys = omega arith
sum_append lengths (x ∷ xs) ys = omega (arith, sum_append lengths xs ys)

module _ (l : Lengths) where
  abbrev pub bare : Lengths
  bare = record l { locals = [] }

  mutual
    expr_apart : (e : ExprTree) → expr_length l e ≡ expr_length bare e + names_sum l.locals (used_by_expr e)
    expr_apart (byte index) = omega (arith, expr_apart index)
    expr_apart (shift op by arg) = omega (arith, expr_apart arg)
    expr_apart (apply op width args) =
        let j : Joins op = joins op in
        omega (arith, j.is l width args, j.is bare width args, parts_apart j.place args)
    expr_apart _ = omega arith

    parts_apart : (place : Place) (es : Exprs) → parts_length l place es ≡ parts_length bare place es + names_sum l.locals (used_by_exprs es)
    parts_apart place no_expr = omega arith
    parts_apart place (expr e es) =
        omega (arith, expr_apart e, parts_apart place es, sum_append l.locals (used_by_expr e) (used_by_exprs es))

  exprs_apart : (es : Exprs) → exprs_length l es ≡ exprs_length bare es + names_sum l.locals (used_by_exprs es)
  exprs_apart es = omega (arith, parts_apart Whole es)

  keyed_apart : (object : ℕ) (keys : Exprs) → keyed_length l object keys ≡ keyed_length bare object keys + names_sum l.locals (used_by_exprs keys)
  keyed_apart object keys = omega (arith, exprs_apart keys)

  names_apart : (xs : List ℕ) → names_length l xs ≡ names_length bare xs + names_sum l.locals xs
  names_apart [] = omega arith
  names_apart (x ∷ xs) = omega (arith, names_apart xs)

  head_apart : (s : StmtTree) → head_length l s ≡ head_length bare s + names_sum l.locals (used_by_head s)
  head_apart (let_local x value) = omega (arith, expr_apart value)
  head_apart (assign x value) = omega (arith, expr_apart value)
  head_apart (set_field f value) = omega (arith, expr_apart value)
  head_apart (look found into object keys) =
      omega (arith, names_apart into, keyed_apart object keys, sum_append l.locals into (used_by_exprs keys))
  head_apart (put ok object keys values) =
      omega (arith, keyed_apart object keys, exprs_apart values, sum_append l.locals (used_by_exprs keys) (used_by_exprs values))
  head_apart (del was object keys) = omega (arith, keyed_apart object keys)
  head_apart (choose cond first second) = omega (arith, expr_apart cond)
  head_apart (send port) = omega (arith, expr_apart port)
  head_apart _ = omega arith

  mutual
    stmt_apart : (s : StmtTree) → stmt_length l s ≡ stmt_length bare s + names_sum l.locals (used_by s)
    stmt_apart (choose cond first second) =
        simp sum_append (omega (arith, head_apart (choose cond first second), body_apart first, body_apart second))
    stmt_apart (repeat index count body) =
        simp sum_append (omega (arith, head_apart (repeat index count body), body_apart body))
    stmt_apart s = head_apart s

    pub body_apart : (b : BodyTree) → body_length l b ≡ body_length bare b + names_sum l.locals (used_in b)
    body_apart done = omega arith
    body_apart (stmt s b) = omega (arith, stmt_apart s, body_apart b, sum_append l.locals (used_by s) (used_in b))

-- ## Each local that is declared is named, and each name has a byte or more
declares_used : (s : StmtTree) → declares_once s ≤ length (used_by_head s)
declares_used (look found into object keys) = omega (arith, length-append into (used_by_exprs keys))
declares_used _ = omega arith

mutual
  stmt_used : (l : Lengths) (s : StmtTree) → stmt_count Locals l s ≤ stmt_count Uses l s
  stmt_used l (choose cond first second) = omega (arith, declares_used (choose cond first second), body_used l first, body_used l second)
  stmt_used l (repeat index count body) = omega (arith, declares_used (repeat index count body), body_used l body)
  stmt_used l s = declares_used s

  pub body_used : (l : Lengths) (b : BodyTree) → body_count Locals l b ≤ body_count Uses l b
  body_used l done = omega arith
  body_used l (stmt s b) = omega (arith, stmt_used l s, body_used l b)
