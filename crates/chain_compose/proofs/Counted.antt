-- What is counted of the whole is what is told of its elements.
use Rattle.std.proofs.Common.{◌≡◌, ℕ, zero, suc, ◌+◌, ◌*◌, ◌==◌, Bool, true, false, cond, ◌||◌, List, [], ◌∷◌, ◌++◌, length, map, drop, slice_index, refl, sym, ap, ◌∙◌, arith, Option, Some, None, length-append, add-zero}
use Rattle.std.specs.List.{filter}
use Rattle.std.proofs.lemmas.List.{get_or-drop}
use Rattle.gal_bits.specs.declared.op.Op.{Op}
use Rattle.gal_bits.specs.declared.op.Op.TheVariants as ops
use Rattle.packet_fields.specs.declared.field.Field.{Field}
use Rattle.packet_fields.specs.declared.field.Field.TheVariants.{MetaPort}
use Rattle.packet_fields.specs.Table.{all_fields, field_index}
use Rattle.state_store.specs.declared.object.ObjectDecl.{ObjectDecl}
use Rattle.element_lang.specs.declared.mark.Mark.TheVariants as marks
use Rattle.element_lang.specs.Rules.{count_of, is_empty, ends_always}
use Rattle.element_lang.specs.Tree as trees
use Rattle.element_lang.specs.Tree.{ExprTree, Exprs, StmtTree, BodyTree}
use Rattle.element_lang.specs.Tree.ExprTree.{lit, local, field, byte, shift, apply}
use Rattle.element_lang.specs.Tree.Exprs.{no_expr, expr}
use Rattle.element_lang.specs.Tree.StmtTree.{let_local, assign, set_field, look, put, del, choose, repeat, send}
use Rattle.element_lang.specs.Tree.BodyTree.{done, stmt}
use Rattle.element_lang.specs.Widths.{local_widths}
use Rattle.element_print.specs.declared.place.Place.{Place}
use Rattle.element_print.specs.declared.place.Place.TheVariants.{Whole, Operand, Turned}
use Rattle.element_print.specs.Printed.{mark_of, has_infix, is_turned, needs_brackets}
use Rattle.element_print.specs.Lengths.{Lengths, mark_length, number_length, literal_length, brackets_length, between_length, field_length, nameless, read_length, call_length, expr_length, parts_length, exprs_length, keyed_length, names_length, else_length, braces_length, name_length}
use Rattle.element_chain.specs.declared.chain.Wire.{Wire}
use Rattle.element_chain.specs.declared.chain.Target.{Target}
use Rattle.element_chain.specs.declared.chain.Target.TheVariants.{Element, Out}
use Rattle.element_chain.specs.Chain.{Connected, element_at}
use Rattle.element_chain.specs.Compose.{followed, one, two, seen, renamed, all_renamed, numbers, Numbering, Spot, Sends, Ends, declared, stmt_placed, body_placed, tests, sent_by, wires_of, clearing, closed, is_set, base_of, objects_from, ends_within, element_placed, composed}
use Rattle.chain_compose.specs.declared.gauge.Gauge.{Gauge}
use Rattle.chain_compose.specs.declared.gauge.Gauge.TheVariants.{Statements, Locals, Uses, Bytes}
use Rattle.chain_compose.specs.Counts.{used_by_expr, used_by_exprs, weight, turns, body_count, placed_stmt_count, placed_count, whole_lengths, port_length, drop_weight, test_weight, tests_count, sent_count, closing_count, clearing_count, element_count, end_count, entry_count}
use Rattle.element_chain.proofs.GoodStmts.{length-numbers}
use Rattle.chain_compose.proofs.SeenFields.{as_field}

-- ## Statements one after the other

pub followed_counts : (g : Gauge) (l : Lengths) (a b : BodyTree) → body_count g l (followed a b) ≡ body_count g l a + body_count g l b
followed_counts g l done b = omega arith
followed_counts g l (stmt s a) b = omega (arith, followed_counts g l a b)

-- the first statements decide whether there are some
followed_some : (a b : BodyTree) → is_empty a ≡ false → is_empty (followed a b) ≡ false
followed_some (stmt s a) b some = refl
followed_some done b some = cc

-- ## Operators

-- how an expression's parts are written, and how long is what stands around and between them
pub record Joins (op : Op) : Type 0 where
  pub place : Place
  pub around : ℕ → ℕ → ℕ
  pub is : (l : Lengths) (width : ℕ) (args : Exprs) → expr_length l (apply op width args) ≡ parts_length l place args + around width (count_of args)

pub joins : (op : Op) → Joins op
joins ops.Not = record { place = Turned; around = λ width n. mark_length marks.Tilde + between_length marks.Comma n; is = λ l width args. omega arith }
joins ops.Cast = record { place = Whole; around = λ width n. call_length marks.Cast + number_length width + n * mark_length marks.Comma; is = λ l width args. omega arith }
joins ops.Select = record { place = Whole; around = λ width n. call_length marks.Select + between_length marks.Comma n; is = λ l width args. omega arith }
joins ops.Adjust = record { place = Whole; around = λ width n. call_length marks.Adjust + between_length marks.Comma n; is = λ l width args. omega arith }
joins op = record { place = Operand; around = λ width n. between_length (mark_of op) n; is = λ l width args. refl }

-- ## Expressions of an element where it stands

module _ (xs : List ℕ) (base : ℕ) (port : Option ℕ) where
  -- names in the whole, and as the element has them
  abbrev pub whole : Lengths
  whole = record { locals = []; objects = xs; port = field_length MetaPort }

  abbrev pub own : Lengths
  own = record { locals = []; objects = drop base xs; port = port_length port }

seen_reads : (xs : List ℕ) (base : ℕ) (port : Option ℕ) (f : Field) → expr_length (whole xs base port) (seen port f) ≡ read_length (own xs base port) f
seen_reads xs base None f = refl
seen_reads xs base (Some input) f = by_test (field_index f == field_index MetaPort) refl
  where
    by_test : (b : Bool) → (field_index f == field_index MetaPort) ≡ b → expr_length (whole xs base (Some input)) (cond b (lit input 8) (field f)) ≡ read_length (own xs base (Some input)) f
    by_test true is = sym (ap (λ (v : Bool). cond v (literal_length input 8) (field_length f)) is)
    by_test false is = ap (λ (v : Bool). cond v (field_length MetaPort) (field_length f)) is ∙ sym (ap (λ (v : Bool). cond v (literal_length input 8) (field_length f)) is)

module _ (port : Option ℕ) (names : List ℕ) where
  same_counts : (es : Exprs) → count_of (all_renamed port names es) ≡ count_of es
  same_counts no_expr = refl
  same_counts (expr e es) = ap suc (same_counts es)

  pub same_infix : (e : ExprTree) → has_infix (nameless (renamed port names e)) ≡ has_infix (nameless e)
  same_infix (field f) = as_field (λ (e : ExprTree). has_infix (nameless e)) port f (λ input. refl)
  same_infix _ = refl

  same_turned : (e : ExprTree) → is_turned (nameless (renamed port names e)) ≡ is_turned (nameless e)
  same_turned (field f) = as_field (λ (e : ExprTree). is_turned (nameless e)) port f (λ input. refl)
  same_turned _ = refl

  pub same_brackets : (place : Place) (e : ExprTree) → needs_brackets place (nameless (renamed port names e)) ≡ needs_brackets place (nameless e)
  same_brackets Whole e = refl
  same_brackets Operand e = same_infix e
  same_brackets Turned e =
      ap (λ (v : Bool). v || is_turned (nameless (renamed port names e))) (same_infix e)
      ∙ ap (λ (v : Bool). has_infix (nameless e) || v) (same_turned e)

module _ (xs : List ℕ) (base : ℕ) (port : Option ℕ) (names : List ℕ) where
  mutual
    pub same_length : (e : ExprTree) → expr_length (whole xs base port) (renamed port names e) ≡ expr_length (own xs base port) e
    same_length (field f) = seen_reads xs base port f
    same_length (byte index) = omega (arith, same_length index)
    same_length (shift op by arg) =
        omega (arith, same_length arg, ap brackets_length (same_infix port names arg))
    same_length (apply op width args) =
        let j : Joins op = joins op in
        j.is (whole xs base port) width (all_renamed port names args)
        ∙ ap (λ (n : ℕ). n + j.around width (count_of (all_renamed port names args))) (same_parts j.place args)
        ∙ ap (λ (n : ℕ). parts_length (own xs base port) j.place args + j.around width n) (same_counts port names args)
        ∙ sym (j.is (own xs base port) width args)
    same_length _ = refl

    pub same_parts : (place : Place) (es : Exprs) → parts_length (whole xs base port) place (all_renamed port names es) ≡ parts_length (own xs base port) place es
    same_parts place no_expr = refl
    same_parts place (expr e es) =
        omega (arith, ap brackets_length (same_brackets port names place e), same_length e, same_parts place es)

  same_exprs : (es : Exprs) → exprs_length (whole xs base port) (all_renamed port names es) ≡ exprs_length (own xs base port) es
  same_exprs es = omega (arith, ap (between_length marks.Comma) (same_counts port names es), same_parts Whole es)

  same_keyed : (object : ℕ) (keys : Exprs) → keyed_length (whole xs base port) (base + object) (all_renamed port names keys) ≡ keyed_length (own xs base port) object keys
  same_keyed object keys = omega (arith, get_or-drop base xs object 0, same_exprs keys)

-- ## Uses

module _ (port : Option ℕ) (names : List ℕ) where
  mutual
    pub same_uses : (e : ExprTree) → length (used_by_expr (renamed port names e)) ≡ length (used_by_expr e)
    same_uses (field f) = as_field (λ (e : ExprTree). length (used_by_expr e)) port f (λ input. refl)
    same_uses (byte index) = same_uses index
    same_uses (shift op by arg) = same_uses arg
    same_uses (apply op width args) = all_uses args
    same_uses _ = refl

    all_uses : (es : Exprs) → length (used_by_exprs (all_renamed port names es)) ≡ length (used_by_exprs es)
    all_uses no_expr = refl
    all_uses (expr e es) = simp length-append (omega (arith, same_uses e, all_uses es))

-- locals have no bytes
names_same : (l : Lengths) (i : ℕ) (xs : List ℕ) → l.locals ≡ [] → names_length l (numbers i xs) ≡ names_length l xs
names_same l i [] none = refl
names_same l i (x ∷ xs) none =
    omega (arith, names_same l (suc i) xs none, ap (λ (ns : List ℕ). slice_index ns i) none, ap (λ (ns : List ℕ). slice_index ns x) none)

no_names : (xs : List ℕ) (base : ℕ) (port : Option ℕ) (into : List ℕ) → names_length (whole xs base port) into ≡ names_length (own xs base port) into
no_names xs base port [] = refl
no_names xs base port (y ∷ ys) = ap (λ (k : ℕ). mark_length marks.Comma + name_length [] y + k) (no_names xs base port ys)

-- ## Statements where they stand

module _ (xs : List ℕ) (base : ℕ) (port : Option ℕ) (names : List ℕ) where
  -- each kind of statement weighs as much as where its element stands alone
  let_weighs : (g : Gauge) (v x : ℕ) (value : ExprTree) → weight g (whole xs base port) (let_local v (renamed port names value)) ≡ weight g (own xs base port) (let_local x value)
  let_weighs Uses v x value = ap suc (same_uses port names value)
  let_weighs Bytes v x value = omega (arith, same_length xs base port names value)
  let_weighs _ v x value = refl

  assign_weighs : (g : Gauge) (v x : ℕ) (value : ExprTree) → weight g (whole xs base port) (assign v (renamed port names value)) ≡ weight g (own xs base port) (assign x value)
  assign_weighs Uses v x value = ap suc (same_uses port names value)
  assign_weighs Bytes v x value = omega (arith, same_length xs base port names value)
  assign_weighs _ v x value = refl

  set_weighs : (g : Gauge) (f : Field) (value : ExprTree) → weight g (whole xs base port) (set_field f (renamed port names value)) ≡ weight g (own xs base port) (set_field f value)
  set_weighs Uses f value = same_uses port names value
  set_weighs Bytes f value = omega (arith, same_length xs base port names value)
  set_weighs _ f value = refl

  look_weighs : (g : Gauge) (v found : ℕ) (into : List ℕ) (object : ℕ) (keys : Exprs) → weight g (whole xs base port) (look v (numbers (suc v) into) (base + object) (all_renamed port names keys)) ≡ weight g (own xs base port) (look found into object keys)
  look_weighs Locals v found into object keys = ap suc (length-numbers (suc v) into)
  look_weighs Uses v found into object keys = simp length-append (omega (arith, length-numbers (suc v) into, all_uses port names keys))
  look_weighs Bytes v found into object keys =
      omega (arith, names_same (whole xs base port) (suc v) into refl, no_names xs base port into, same_keyed xs base port names object keys)
  look_weighs _ v found into object keys = refl

  put_weighs : (g : Gauge) (v ok object : ℕ) (keys values : Exprs) → weight g (whole xs base port) (put v (base + object) (all_renamed port names keys) (all_renamed port names values)) ≡ weight g (own xs base port) (put ok object keys values)
  put_weighs Uses v ok object keys values = simp length-append (omega (arith, all_uses port names keys, all_uses port names values))
  put_weighs Bytes v ok object keys values = omega (arith, same_keyed xs base port names object keys, same_exprs xs base port names values)
  put_weighs _ v ok object keys values = refl

  del_weighs : (g : Gauge) (v was object : ℕ) (keys : Exprs) → weight g (whole xs base port) (del v (base + object) (all_renamed port names keys)) ≡ weight g (own xs base port) (del was object keys)
  del_weighs Uses v was object keys = ap suc (all_uses port names keys)
  del_weighs Bytes v was object keys = omega (arith, same_keyed xs base port names object keys)
  del_weighs _ v was object keys = refl

  choose_weighs : (g : Gauge) (test : ExprTree) (a b first second : BodyTree) → is_empty b ≡ is_empty second → weight g (whole xs base port) (choose (renamed port names test) a b) ≡ weight g (own xs base port) (choose test first second)
  choose_weighs Uses test a b first second same = same_uses port names test
  choose_weighs Bytes test a b first second same = omega (arith, ap else_length same, same_length xs base port names test)
  choose_weighs _ test a b first second same = refl

  repeat_weighs : (g : Gauge) (v index count : ℕ) (a b : BodyTree) → weight g (whole xs base port) (repeat v count a) ≡ weight g (own xs base port) (repeat index count b)
  repeat_weighs Statements v index count a b = refl
  repeat_weighs _ v index count a b = refl

pub drop_weighs : (g : Gauge) (l : Lengths) → weight g l trees.drop ≡ drop_weight g
drop_weighs Statements l = refl
drop_weighs _ l = refl

-- what stands for a `send` is never nothing
module _ (spot : Spot) (sent : Sends) (some : (port : ExprTree) (widths : List ℕ) → is_empty (sent port widths).body ≡ false) where
  stmt_some : (s : StmtTree) (n : Numbering) → is_empty (stmt_placed spot sent s n).body ≡ false
  stmt_some (send port) n = some (renamed spot.port n.names port) n.widths
  stmt_some _ n = refl

  same_empty : (b : BodyTree) (n : Numbering) → is_empty (body_placed spot sent b n).body ≡ is_empty b
  same_empty done n = refl
  same_empty (stmt s b) n =
      let first = stmt_placed spot sent s n in
      followed_some first.body (body_placed spot sent b first.numbering).body (stmt_some s n)

module _ (g : Gauge) (xs : List ℕ) (spot : Spot) (sent : Sends) (counts : ExprTree → ℕ)
    (some : (port : ExprTree) (widths : List ℕ) → is_empty (sent port widths).body ≡ false)
    (each : (names : List ℕ) (port : ExprTree) (widths : List ℕ) → body_count g (whole xs spot.base spot.port) (sent (renamed spot.port names port) widths).body ≡ counts port) where
  mutual
    stmt_counted : (s : StmtTree) (n : Numbering) → body_count g (whole xs spot.base spot.port) (stmt_placed spot sent s n).body ≡ placed_stmt_count g (own xs spot.base spot.port) counts s
    stmt_counted (let_local x value) n = omega (arith, let_weighs xs spot.base spot.port n.names g (length n.widths) x value)
    stmt_counted (assign x value) n = omega (arith, assign_weighs xs spot.base spot.port n.names g (slice_index n.names x) x value)
    stmt_counted (set_field f value) n = omega (arith, set_weighs xs spot.base spot.port n.names g f value)
    stmt_counted (look found into object keys) n = omega (arith, look_weighs xs spot.base spot.port n.names g (length n.widths) found into object keys)
    stmt_counted (put ok object keys values) n = omega (arith, put_weighs xs spot.base spot.port n.names g (length n.widths) ok object keys values)
    stmt_counted (del was object keys) n = omega (arith, del_weighs xs spot.base spot.port n.names g (length n.widths) was object keys)
    stmt_counted (choose test first second) n =
        let yes_part = body_placed spot sent first n in
        let no_part = body_placed spot sent second yes_part.numbering in
        let itself = choose_weighs xs spot.base spot.port n.names g test yes_part.body no_part.body first second (same_empty spot sent some second yes_part.numbering) in
        omega (arith, itself, body_counted first n, body_counted second yes_part.numbering)
    stmt_counted (repeat index count body) n =
        let turn = body_placed spot sent body (declared spot index n) in
        let itself = repeat_weighs xs spot.base spot.port n.names g (length n.widths) index count turn.body body in
        let inner = ap (λ (k : ℕ). turns g count * k) (body_counted body (declared spot index n)) in
        omega (arith, itself, inner)
    stmt_counted (send port) n = each n.names port n.widths
    stmt_counted trees.drop n = add-zero _ ∙ drop_weighs g (whole xs spot.base spot.port) ∙ sym (drop_weighs g (own xs spot.base spot.port))

    pub body_counted : (b : BodyTree) (n : Numbering) → body_count g (whole xs spot.base spot.port) (body_placed spot sent b n).body ≡ placed_count g (own xs spot.base spot.port) counts b
    body_counted done n = refl
    body_counted (stmt s b) n =
        let first = stmt_placed spot sent s n in
        followed_counts g (whole xs spot.base spot.port) first.body (body_placed spot sent b first.numbering).body
        ∙ ap (λ (k : ℕ). k + body_count g (whole xs spot.base spot.port) (body_placed spot sent b first.numbering).body) (stmt_counted s n)
        ∙ ap (λ (k : ℕ). placed_stmt_count g (own xs spot.base spot.port) counts s + k) (body_counted b first.numbering)

-- ## What stands for a `send`

-- what stands at the ends of wires counts so much
abbrev pub AreCounted : Gauge → Lengths → Ends → (Target → ℕ → ℕ) → Type 0
AreCounted g l end counts = (t : Target) (input : ℕ) (widths : List ℕ) → body_count g l (end t input widths).body ≡ counts t input

tests_some : (end : Ends) (v : ℕ) (ws : List Wire) (widths : List ℕ) → is_empty (tests end v ws widths).body ≡ false
tests_some end v [] widths = refl
tests_some end v (w ∷ ws) widths = refl

sent_some : (end : Ends) (ws : List Wire) (port : ExprTree) (widths : List ℕ) → is_empty (sent_by end ws port widths).body ≡ false
sent_some end [] port widths = refl
sent_some end (w ∷ ws) port widths = refl

test_weighs : (g : Gauge) (xs : List ℕ) (v output : ℕ) (a b : BodyTree) → is_empty b ≡ false
    → weight g (record { locals = []; objects = xs; port = field_length MetaPort }) (choose (apply ops.Eq 1 (two (local v) (lit output 8))) a b) ≡ test_weight g output
test_weighs Bytes xs v output a b some =
    let l : Lengths = record { locals = []; objects = xs; port = field_length MetaPort } in
    ap (λ (e : Bool). mark_length marks.If + expr_length l (apply ops.Eq 1 (two (local v) (lit output 8))) + braces_length + else_length e) some
test_weighs _ xs v output a b some = refl

module _ (g : Gauge) (xs : List ℕ) (end : Ends) (counts : Target → ℕ → ℕ) where
  tests_counted : AreCounted g (record { locals = []; objects = xs; port = field_length MetaPort }) end counts → (v : ℕ) (ws : List Wire) (widths : List ℕ)
      → body_count g (record { locals = []; objects = xs; port = field_length MetaPort }) (tests end v ws widths).body ≡ tests_count g counts ws
  tests_counted each v [] widths = add-zero _ ∙ drop_weighs g (record { locals = []; objects = xs; port = field_length MetaPort })
  tests_counted each v (w ∷ ws) widths =
      let first = end w.to w.input widths in
      let rest = tests end v ws first.widths in
      let itself = test_weighs g xs v w.output first.body rest.body (tests_some end v ws first.widths) in
      omega (arith, itself, each w.to w.input widths, tests_counted each v ws first.widths)

  sent_counted : (base : ℕ) (port : Option ℕ) → AreCounted g (whole xs base port) end counts → (ws : List Wire) (names : List ℕ) (e : ExprTree) (widths : List ℕ)
      → body_count g (whole xs base port) (sent_by end ws (renamed port names e) widths).body ≡ sent_count g (own xs base port) counts ws e
  sent_counted base port each [] names e widths = add-zero _ ∙ drop_weighs g (whole xs base port)
  sent_counted base port each (w ∷ ws) names e widths =
      let itself = let_weighs xs base port names g (length widths) 0 e in
      let tested = tests_counted each (length widths) (w ∷ ws) (widths ++ 8 ∷ []) in
      omega (arith, itself, tested)

-- ## The whole

-- what stands at the end of a wire counts as much as is told
abbrev pub HaveCounts : Gauge → Connected → ℕ → Type 0
HaveCounts g c n = AreCounted g (whole_lengths c) (ends_within c n) (end_count g c n)

-- an element, where what stands at the ends of its wires is told
pub element_counted : (g : Gauge) (c : Connected) (n : ℕ) → HaveCounts g c n → (port : Option ℕ) (e : ℕ) (widths : List ℕ)
    → body_count g (whole_lengths c) (element_placed c (ends_within c n) port e widths).body ≡ element_count g c (end_count g c n) port e
element_counted g c n told port e widths =
    let m = element_at c.elements e in
    let xs = map (λ (o : ObjectDecl). length o.name) (objects_from 0 c.elements) in
    let spot : Spot = record { widths = local_widths m; base = base_of c.elements e; port = port } in
    let ws = wires_of c.wires e in
    let sent = sent_by (ends_within c n) ws in
    body_counted g xs spot sent (sent_count g (own xs spot.base port) (end_count g c n) ws) (sent_some (ends_within c n) ws)
    (λ names p inner. sent_counted g xs (ends_within c n) (end_count g c n) spot.base port told ws names p inner)
    m.body (record { names = []; widths = widths })

closed_counts : (g : Gauge) (l : Lengths) (b : Bool) (a : BodyTree) → body_count g l (cond b a (followed a (one trees.drop))) ≡ body_count g l a + cond b 0 (drop_weight g)
closed_counts g l true a = omega arith
closed_counts g l false a = omega (arith, followed_counts g l a (one trees.drop), drop_weighs g l)

pub have_counts : (g : Gauge) (c : Connected) (n : ℕ) → HaveCounts g c n
have_counts g c zero Out input widths = add-zero _
have_counts g c zero (Element e) input widths = add-zero _ ∙ drop_weighs g (whole_lengths c)
have_counts g c (suc n) Out input widths = add-zero _
have_counts g c (suc n) (Element e) input widths =
    let m = element_at c.elements e in
    let made = element_placed c (ends_within c n) (Some input) e widths in
    let cleared = clearing (filter (is_set c.elements) all_fields) in
    followed_counts g (whole_lengths c) cleared (closed m.body made.body)
    ∙ ap (λ (k : ℕ). clearing_count g c + k) (closed_counts g (whole_lengths c) (ends_always m.body) made.body
    ∙ ap (λ (k : ℕ). k + closing_count g m.body) (element_counted g c n (have_counts g c n) (Some input) e widths))

-- all statements of the whole
pub whole_counted : (g : Gauge) (c : Connected) → body_count g (whole_lengths c) (composed c).body ≡ entry_count g c
whole_counted g c = element_counted g c (length c.elements) (have_counts g c (length c.elements)) None 0 []
