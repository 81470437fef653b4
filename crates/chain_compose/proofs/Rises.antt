-- What is counted rises by the same for each byte of the port of arrival.
use Rattle.std.proofs.Common.{◌≡◌, ℕ, ◌+◌, ◌-◌, ◌*◌, ◌==◌, ◌≤◌, Bool, true, false, cond, List, [], ◌∷◌, refl, sym, ap, ◌∙◌, arith}
use Rattle.std.proofs.Math.Nat.{add-mul, mul-add, mul_assoc}
use Rattle.packet_fields.specs.declared.field.Field.{Field}
use Rattle.packet_fields.specs.declared.field.Field.TheVariants.{MetaPort}
use Rattle.packet_fields.specs.Table.{field_index}
use Rattle.element_lang.specs.declared.mark.Mark.TheVariants as marks
use Rattle.element_lang.specs.Rules.{count_of, is_empty}
use Rattle.element_lang.specs.Tree as trees
use Rattle.element_lang.specs.Tree.{ExprTree, Exprs, StmtTree, BodyTree}
use Rattle.element_lang.specs.Tree.ExprTree.{lit, local, field, byte, shift, apply}
use Rattle.element_lang.specs.Tree.Exprs.{no_expr, expr}
use Rattle.element_lang.specs.Tree.StmtTree.{let_local, assign, set_field, look, put, del, choose, repeat, send}
use Rattle.element_lang.specs.Tree.BodyTree.{done, stmt}
use Rattle.element_print.specs.declared.place.Place.{Place}
use Rattle.element_print.specs.declared.place.Place.TheVariants.{Whole, Operand}
use Rattle.element_print.specs.Printed.{mark_of, needs_brackets}
use Rattle.element_print.specs.Lengths.{Lengths, capped, mark_length, number_length, literal_length, brackets_length, between_length, field_length, nameless, read_length, name_length, call_length, expr_length, parts_length, exprs_length, keyed_length, names_length, else_length, braces_length, head_length}
use Rattle.chain_compose.specs.declared.gauge.Gauge.{Gauge}
use Rattle.chain_compose.specs.declared.gauge.Gauge.TheVariants.{Statements, Writes, Locals, Uses, Bytes}
use Rattle.chain_compose.specs.Counts.{weight, turns, placed_stmt_count, drop_weight}
use Rattle.chain_compose.specs.Tallies.{first_sent, bare_count}
use Rattle.chain_compose.proofs.Caps.{rise_capped}
use Rattle.chain_compose.proofs.Counted.{Joins, joins}

-- a count that rises by the same with each byte
pub record Rises (f : ℕ → ℕ) : Type 0 where
  pub by : ℕ
  pub is : (n : ℕ) → f n ≡ f 0 + by * n

level : (k : ℕ) → Rises (λ n. k)
level k = record { by = 0; is = λ n. omega arith }

itself : Rises (λ n. n)
itself = record { by = 1; is = λ n. omega arith }

both : {f g : ℕ → ℕ} → Rises f → Rises g → Rises (λ n. f n + g n)
both {f} {g} r s = record { by = r.by + s.by; is = λ n. omega (arith, r.is n, s.is n, add-mul r.by s.by n) }

-- one that rises, between two that don't
around : (k m : ℕ) {f : ℕ → ℕ} → Rises f → Rises (λ n. k + f n + m)
around k m {f} r = record { by = r.by; is = λ n. omega (arith, r.is n) }

above : (k : ℕ) {f : ℕ → ℕ} → Rises f → Rises (λ n. k + f n)
above k {f} r = record { by = r.by; is = λ n. omega (arith, r.is n) }

times : (k : ℕ) {f : ℕ → ℕ} → Rises f → Rises (λ n. k * f n)
times k {f} r = record {
  by = k * r.by;
  is = λ n. ap (λ (m : ℕ). k * m) (r.is n) ∙ mul-add k (f 0) (r.by * n) ∙ ap (λ (m : ℕ). k * f 0 + m) (sym (mul_assoc k r.by n));
}

along : (f : ℕ → ℕ) {g : ℕ → ℕ} → ((n : ℕ) → f n ≡ g n) → Rises g → Rises f
along f {g} same r = record { by = r.by; is = λ n. same n ∙ r.is n ∙ ap (λ (m : ℕ). m + r.by * n) (sym (same 0)) }

-- told from what is there at 0 and at 1
pub told_rise : (f : ℕ → ℕ) → Rises f → (many : ℕ) → 1 ≤ many → capped (capped (f 0) + (capped (f 1) - capped (f 0)) * many) ≡ capped (f many)
told_rise f r many some =
    let once : f 1 ≡ f 0 + r.by = omega (arith, r.is 1) in
    ap (λ (m : ℕ). capped (capped (f 0) + (capped m - capped (f 0)) * many)) once
    ∙ rise_capped (f 0) r.by many some
    ∙ ap capped (sym (r.is many))

module _ (locals objects : List ℕ) where
  -- a reading of the port of arrival takes so many bytes
  abbrev at : ℕ → Lengths
  at port = record { locals = locals; objects = objects; port = port }

  read_rises : (f : Field) → Rises (λ n. read_length (at n) f)
  read_rises f = by_test (field_index f == field_index MetaPort)
    where
      by_test : (b : Bool) → Rises (λ n. cond b n (field_length f))
      by_test true = itself
      by_test false = level (field_length f)

  mutual
    expr_rises : (e : ExprTree) → Rises (λ n. expr_length (at n) e)
    expr_rises (lit value width) = level (literal_length value width)
    expr_rises (local x) = level (name_length locals x)
    expr_rises (field f) = read_rises f
    expr_rises (byte index) = above (call_length marks.Byte) (expr_rises index)
    expr_rises (shift op by arg) =
        along (λ n. expr_length (at n) (shift op by arg)) (λ n. omega arith)
        (around (brackets_length (needs_brackets Operand (nameless arg))) (mark_length (mark_of op) + number_length by) (expr_rises arg))
    expr_rises (apply op width args) =
        let j : Joins op = joins op in
        along (λ n. expr_length (at n) (apply op width args)) (λ n. j.is (at n) width args)
        (both (parts_rise j.place args) (level (j.around width (count_of args))))

    parts_rise : (place : Place) (es : Exprs) → Rises (λ n. parts_length (at n) place es)
    parts_rise place no_expr = level 0
    parts_rise place (expr e es) = both (above (brackets_length (needs_brackets place (nameless e))) (expr_rises e)) (parts_rise place es)

  exprs_rise : (es : Exprs) → Rises (λ n. exprs_length (at n) es)
  exprs_rise es = both (parts_rise Whole es) (level (between_length marks.Comma (count_of es)))

  keyed_rises : (object : ℕ) (keys : Exprs) → Rises (λ n. keyed_length (at n) object keys)
  keyed_rises object keys = around (name_length objects object + mark_length marks.LeftBracket) (mark_length marks.RightBracket) (exprs_rise keys)

  names_level : (n : ℕ) (xs : List ℕ) → names_length (at n) xs ≡ names_length (at 0) xs
  names_level n [] = refl
  names_level n (x ∷ xs) = ap (λ (k : ℕ). mark_length marks.Comma + name_length locals x + k) (names_level n xs)

  head_rises : (s : StmtTree) → Rises (λ n. head_length (at n) s)
  head_rises (let_local x value) =
      around (mark_length marks.Let + name_length locals x + mark_length marks.Assign) (mark_length marks.Semicolon) (expr_rises value)
  head_rises (assign x value) = around (name_length locals x + mark_length marks.Assign) (mark_length marks.Semicolon) (expr_rises value)
  head_rises (set_field f value) = around (field_length f + mark_length marks.Assign) (mark_length marks.Semicolon) (expr_rises value)
  head_rises (look found into object keys) =
      let k = mark_length marks.Look + name_length locals found + names_length (at 0) into + mark_length marks.Assign in
      along (λ n. head_length (at n) (look found into object keys))
      (λ n. ap (λ (m : ℕ). mark_length marks.Look + name_length locals found + m + mark_length marks.Assign + keyed_length (at n) object keys + mark_length marks.Semicolon) (names_level n into))
      (around k (mark_length marks.Semicolon) (keyed_rises object keys))
  head_rises (put ok object keys values) =
      let k = mark_length marks.Put + name_length locals ok + mark_length marks.Assign in
      both (both (around k (mark_length marks.Arrow) (keyed_rises object keys)) (exprs_rise values)) (level (mark_length marks.Semicolon))
  head_rises (del was object keys) =
      around (mark_length marks.Del + name_length locals was + mark_length marks.Assign) (mark_length marks.Semicolon) (keyed_rises object keys)
  head_rises (choose test first second) =
      along (λ n. head_length (at n) (choose test first second)) (λ n. omega arith)
      (around (mark_length marks.If) (braces_length + else_length (is_empty second)) (expr_rises test))
  head_rises (repeat index count body) = level (mark_length marks.Repeat + name_length locals index + number_length count + braces_length)
  head_rises (send port) = around (mark_length marks.Send) (mark_length marks.Semicolon) (expr_rises port)
  head_rises trees.drop = level (mark_length marks.Drop + mark_length marks.Semicolon)

  weight_rises : (g : Gauge) (s : StmtTree) → Rises (λ n. weight g (at n) s)
  weight_rises Statements s = level 1
  weight_rises Writes s = level (weight Writes (at 0) s)
  weight_rises Locals s = level (weight Locals (at 0) s)
  weight_rises Uses s = level (weight Uses (at 0) s)
  weight_rises Bytes s = head_rises s

  first_rises : (g : Gauge) (wired : Bool) (port : ExprTree) → Rises (λ n. first_sent g (at n) wired port)
  first_rises g true port = weight_rises g (let_local 0 port)
  first_rises g false port = level (drop_weight g)

  module _ (g : Gauge) (wired : Bool) where
    abbrev stmt_at : StmtTree → ℕ → ℕ
    stmt_at s n = placed_stmt_count g (at n) (first_sent g (at n) wired) s

    abbrev body_at : BodyTree → ℕ → ℕ
    body_at b n = bare_count g (at n) wired b

    mutual
      stmt_rises : (s : StmtTree) → Rises (stmt_at s)
      stmt_rises (choose test first second) =
          both (weight_rises g (choose test first second)) (both (body_rises first) (body_rises second))
      stmt_rises (repeat index count body) =
          both (weight_rises g (repeat index count body)) (times (turns g count) (body_rises body))
      stmt_rises (send port) = first_rises g wired port
      stmt_rises s = weight_rises g s

      pub body_rises : (b : BodyTree) → Rises (body_at b)
      body_rises done = level 0
      body_rises (stmt s b) = both (stmt_rises s) (body_rises b)

-- told from what is counted where a reading of the port of arrival takes no byte, and where it takes one
pub bare_told : (g : Gauge) (objects : List ℕ) (wired : Bool) (b : BodyTree) (many : ℕ) → 1 ≤ many
    → (let count : ℕ → ℕ = λ n. bare_count g (record { locals = []; objects = objects; port = n }) wired b in
    capped (capped (count 0) + (capped (count 1) - capped (count 0)) * many) ≡ capped (count many))
bare_told g objects wired b many some =
    told_rise (λ n. bare_count g (record { locals = []; objects = objects; port = n }) wired b) (body_rises [] objects g wired b) many some
