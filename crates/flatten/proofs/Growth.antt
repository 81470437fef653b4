-- What is given only grows.
use Rattle.std.proofs.Common.{◌≡◌, ℕ, zero, suc, ◌≤◌, ◌<◌, Bool, true, false, List, [], ◌∷◌, length, get_or, Option, Some, refl, ◌∙◌, subst, arith, length-append, cond}
use Rattle.std.proofs.Math.ListN.{get_or-append}
use Rattle.element_lang.specs.Tree.{ExprTree, Exprs, StmtTree, BodyTree}
use Rattle.element_lang.specs.Tree.ExprTree.{lit, byte, shift, apply}
use Rattle.element_lang.specs.Tree.Exprs.{no_expr, expr}
use Rattle.element_lang.specs.Tree.StmtTree.{let_local, assign, set_field, look, put, del, choose, repeat, send, drop}
use Rattle.element_lang.specs.Tree.BodyTree.{done, stmt}
use Rattle.element_lang.specs.Widths.{width_of}
use Rattle.element_lang.specs.Rules.{is_empty}
use Rattle.flat_ir.specs.declared.program.ValueId.{ValueId}
use Rattle.flat_ir.specs.declared.program.Block.{Block}
use Rattle.flat_ir.specs.Blocks.{block_at}
use Rattle.flat_ir.specs.Program as flat
use Rattle.flat_ir.specs.Program.{Step, Work}
use Rattle.flatten.specs.declared.error.FlatError.{FlatError}
use Rattle.flatten.specs.declared.error.FlatError.TheVariants.{TooLarge, NoMemory}
use Rattle.flatten.specs.declared.place.Ending.{Ending}
use Rattle.flatten.specs.declared.place.Ending.TheVariants.{No, Yes, Maybe}
use Rattle.flatten.specs.declared.place.Place.{Place}
use Rattle.flatten.specs.Flatten.{Emitted, View, At, root, Valued, Flattener, emit, give, opened, below, flat_expr, flat_exprs, operation, same_id, merge_id, merge_option, merge_ids, field_widths, merge, merge_ended, ends, select_ended, join, follow, go_on, in_order, bound, flat_turn, flat_turns, looping, second_side, flat_stmt, flat_body}
use Rattle.flatten.specs.Over.{IsOver}
use Rattle.flatten.specs.Pending.{first_at, rest_at}
use Rattle.flatten.specs.declared.stretch.Pending.{Pending}
use Rattle.flatten.specs.Open.{closed, outermost}

abbrev pub size : Emitted → ℕ
size g = length g.code

pub emit_length : (p : Place) (work : Work) (g : Emitted) → length (emit p work g).code ≡ suc (length g.code)
emit_length p work g = omega (arith, length-append g.code (record { block = p.block; looped = p.looped; work = work } ∷ []))

-- the constants, given one after the other
abbrev pub empty : Emitted
empty = record { code = []; blocks = [] }

abbrev pub zero_bit : Emitted
zero_bit = emit root (flat.const 1 0) empty

abbrev pub both_bits : Emitted
both_bits = emit root (flat.const 1 1) zero_bit

abbrev pub blank_step : Step
blank_step = record { block = 0; looped = false; work = flat.const 1 0 }

abbrev pub blank_block : Block
blank_block = record { parent = 0; cond = record { instruction = 0; result = 0 }; polarity = true }

-- no instruction and no block is taken back
pub record Grows (g h : Emitted) : Type 0 where
  pub longer : size g ≤ size h
  pub steps : (i : ℕ) → i < size g → get_or h.code i blank_step ≡ get_or g.code i blank_step
  pub more : length g.blocks ≤ length h.blocks
  pub blocks : (k : ℕ) → k < length g.blocks → block_at h.blocks k ≡ block_at g.blocks k

pub grows : (g : Emitted) → Grows g g
grows g = record { longer = omega arith; steps = λ i lt. refl; more = omega arith; blocks = λ k lt. refl }

pub then_grows : (f g h : Emitted) → Grows f g → Grows g h → Grows f h
then_grows f g h p q = record {
  longer = omega (arith, p.longer, q.longer);
  steps = λ i lt. q.steps i (omega (arith, p.longer, lt)) ∙ p.steps i lt;
  more = omega (arith, p.more, q.more);
  blocks = λ k lt. q.blocks k (omega (arith, p.more, lt)) ∙ p.blocks k lt;
}

-- what is too large stays so
pub over_later : (g h : Emitted) (e : FlatError) → Grows g h → IsOver g e → IsOver h e
over_later g h TooLarge p over = omega (arith, p.longer, over)
over_later g h NoMemory p over = tt

pub emit_grows : (p : Place) (work : Work) (g : Emitted) → Grows g (emit p work g)
emit_grows p work g =
    let last : List Step = record { block = p.block; looped = p.looped; work = work } ∷ [] in
    record { longer = omega (arith, length-append g.code last); steps = λ i lt. get_or-append g.code last blank_step i lt; more = omega arith; blocks = λ k lt. refl }

pub open_grows : (p : Place) (cond : ValueId) (polarity : Bool) (g : Emitted) → Grows g (opened p cond polarity g)
open_grows p cond polarity g =
    let last : List Block = record { parent = p.block; cond = cond; polarity = polarity } ∷ [] in
    record { longer = omega arith; steps = λ i lt. refl; more = omega (arith, length-append g.blocks last); blocks = λ k lt. get_or-append g.blocks last blank_block k lt }

mutual
  pub expr_grows : (ws : List ℕ) (p : Place) (w : View) (e : ExprTree) (g : Emitted) → Grows g (flat_expr ws p w e g).given
  expr_grows ws p w (lit value width) g = emit_grows p (flat.const width value) g
  expr_grows ws p w (byte index) g =
      let r = flat_expr ws p w index g in
      then_grows g r.given (emit p (flat.byte r.id) r.given) (expr_grows ws p w index g) (emit_grows p (flat.byte r.id) r.given)
  expr_grows ws p w (shift op by arg) g =
      let r = flat_expr ws p w arg g in
      let work = flat.shift op (width_of ws arg) r.id by in
      then_grows g r.given (emit p work r.given) (expr_grows ws p w arg g) (emit_grows p work r.given)
  expr_grows ws p w (apply op width args) g =
      let r = flat_exprs ws p w args g in
      let work = operation op width r.ids in
      then_grows g r.given (emit p work r.given) (exprs_grow ws p w args g) (emit_grows p work r.given)
  expr_grows ws p w _ g = grows g

  pub exprs_grow : (ws : List ℕ) (p : Place) (w : View) (es : Exprs) (g : Emitted) → Grows g (flat_exprs ws p w es g).given
  exprs_grow ws p w no_expr g = grows g
  exprs_grow ws p w (expr e es) g =
      let first = flat_expr ws p w e g in
      then_grows g first.given (flat_exprs ws p w es first.given).given (expr_grows ws p w e g) (exprs_grow ws p w es first.given)

by_test : (b : Bool) (p : Place) (work : Work) (id : ValueId) (g : Emitted) → Grows g (cond b (record { given = g; id = id }) (give p work g)).given
by_test true p work id g = grows g
by_test false p work id g = emit_grows p work g

pub merge_id_grows : (p : Place) (v : ValueId) (width : ℕ) (a b : ValueId) (g : Emitted) → Grows g (merge_id p v width a b g).given
merge_id_grows p v width a b g = by_test (same_id a b) p (flat.select width v a b) a g

pub merge_option_grows : (p : Place) (v : ValueId) (width : ℕ) (a b : Option ValueId) (g : Emitted) → Grows g (merge_option p v width a b g).given
merge_option_grows p v width (Some a) (Some b) g = merge_id_grows p v width a b g
merge_option_grows p v width _ _ g = grows g

pub merge_ids_grow : (p : Place) (v : ValueId) (ws : List ℕ) (xs ys : List (Option ValueId)) (g : Emitted) → Grows g (merge_ids p v ws xs ys g).given
merge_ids_grow p v (width ∷ ws) (a ∷ xs) (b ∷ ys) g =
    let r = merge_option p v width a b g in
    then_grows g r.given (merge_ids p v ws xs ys r.given).given (merge_option_grows p v width a b g) (merge_ids_grow p v ws xs ys r.given)
merge_ids_grow p v _ _ _ g = grows g

pub merge_grows : (ws : List ℕ) (p : Place) (v : ValueId) (a b : View) (g : Emitted) → Grows g (merge ws p v a b g).given
merge_grows ws p v a b g =
    let locals = merge_ids p v ws a.locals b.locals g in
    let fields = merge_ids p v field_widths a.fields b.fields locals.given in
    let send = merge_id p v 1 a.send b.send fields.given in
    let port = merge_id p v 8 a.port b.port send.given in
    then_grows g locals.given port.given (merge_ids_grow p v ws a.locals b.locals g)
    (then_grows locals.given fields.given port.given (merge_ids_grow p v field_widths a.fields b.fields locals.given)
    (then_grows fields.given send.given port.given (merge_id_grows p v 1 a.send b.send fields.given) (merge_id_grows p v 8 a.port b.port send.given)))

pub select_grows : (p : Place) (v : ValueId) (a b : Ending) (g : Emitted) → Grows g (select_ended p v a b g).given
select_grows p v a b g = emit_grows p _ g

pub merge_ended_grows : (p : Place) (v : ValueId) (a b : Ending) (g : Emitted) → Grows g (merge_ended p v a b g).given
merge_ended_grows p v No No g = grows g
merge_ended_grows p v Yes Yes g = grows g
merge_ended_grows p v Yes No g = grows g
merge_ended_grows p v a b g = select_grows p v a b g

pub join_grows : (ws : List ℕ) (p : Place) (v : ValueId) (a : View) (b : At) → Grows b.given (join ws p v a b).given
join_grows ws p v a b =
    let r = merge ws p v a b.view b.given in
    then_grows b.given r.given (merge_ended p v a.ended b.view.ended r.given).given (merge_grows ws p v a b.view b.given) (merge_ended_grows p v a.ended b.view.ended r.given)

pub closed_grows : (ws : List ℕ) (ps : List Pending) (start : View) (r : At) → Grows r.given (closed ws ps start r).given
closed_grows ws [] start r = grows r.given
closed_grows ws (p ∷ ps) start r =
    then_grows r.given (closed ws ps start r).given (closed ws (p ∷ ps) start r).given (closed_grows ws ps start r) (join_grows ws p.place p.ended (outermost ps start) (closed ws ps start r))

-- ## Pieces

abbrev pub Growing : Flattener → Type 0
Growing go = (p : Place) (g : Emitted) (w : View) → Grows g (go p g w).given

pub go_on_grows : (ws : List ℕ) (ended : Ending) (go : Flattener) → Growing go → (p : Place) (g : Emitted) (w : View) → Grows g (go_on ws ended p go g w).given
go_on_grows ws No go ok p g w = ok p g w
go_on_grows ws Yes go ok p g w = grows g
go_on_grows ws (Maybe v) go ok p g w =
    let o = opened p v false g in
    let r = go (below p g) o (ends No w) in
    then_grows g o (follow ws p v go g w).given (open_grows p v false g)
    (then_grows o r.given (follow ws p v go g w).given (ok (below p g) o (ends No w)) (join_grows ws p v (ends Yes w) r))

pub in_order_grows : (ws : List ℕ) (first rest : Flattener) → Growing first → Growing rest → Growing (in_order ws first rest)
in_order_grows ws first rest a b p g w =
    go_on_grows ws w.ended (λ q h u. let r = first q h u in rest q r.given r.view)
    (λ q h u. then_grows h (first q h u).given (rest q (first q h u).given (first q h u).view).given (a q h u) (b q (first q h u).given (first q h u).view)) p g w

pub turn_grows : (i x : ℕ) (go : Flattener) → Growing go → Growing (flat_turn i x go)
turn_grows i x go ok p g w =
    let r = give p (flat.const 32 i) g in
    then_grows g r.given (go p r.given (bound x r.id w)).given (emit_grows p (flat.const 32 i) g) (ok p r.given (bound x r.id w))

pub turns_grow : (ws : List ℕ) (n i x : ℕ) (go : Flattener) → Growing go → Growing (flat_turns ws n i x go)
turns_grow ws zero i x go ok p g w = grows g
turns_grow ws (suc n) i x go ok p g w =
    in_order_grows ws (flat_turn i x go) (flat_turns ws n (suc i) x go) (turn_grows i x go ok) (turns_grow ws n (suc i) x go ok) p g w

pub second_grows : (empty : Bool) (p : Place) (v : ValueId) (go : Flattener) → Growing go → (g : Emitted) (w : View) → Grows g (second_side empty p v go g w).given
second_grows true p v go ok g w = grows g
second_grows false p v go ok g w =
    let o = opened p v false g in
    then_grows g o (go (below p g) o w).given (open_grows p v false g) (ok (below p g) o w)

choice_grows : (ws : List ℕ) (p : Place) (g : Emitted) (c : Valued) (a b : At) → Grows g c.given → Grows (opened p c.id true c.given) a.given → Grows a.given b.given → Grows g (join ws p c.id a.view b).given
choice_grows ws p g c a b pc pa pb =
    let j = join ws p c.id a.view b in
    let o = opened p c.id true c.given in
    then_grows g c.given j.given pc
    (then_grows c.given o j.given (open_grows p c.id true c.given)
    (then_grows o a.given j.given pa (then_grows a.given b.given j.given pb (join_grows ws p c.id a.view b))))

pub give_more : (p : Place) (work : Work) (g h : Emitted) → Grows g h → Grows g (emit p work h)
give_more p work g h q = then_grows g h (emit p work h) q (emit_grows p work h)

mutual
  pub stmt_grows : (ws : List ℕ) (s : StmtTree) → Growing (flat_stmt ws s)
  stmt_grows ws (let_local x value) p g w = expr_grows ws p w value g
  stmt_grows ws (assign x value) p g w = expr_grows ws p w value g
  stmt_grows ws (set_field f value) p g w = expr_grows ws p w value g
  stmt_grows ws (look found into object keys) p g w = give_more p _ g (flat_exprs ws p w keys g).given (exprs_grow ws p w keys g)
  stmt_grows ws (put ok object keys values) p g w =
      let ks = flat_exprs ws p w keys g in
      let vs = flat_exprs ws p w values ks.given in
      give_more p _ g vs.given (then_grows g ks.given vs.given (exprs_grow ws p w keys g) (exprs_grow ws p w values ks.given))
  stmt_grows ws (del was object keys) p g w = give_more p _ g (flat_exprs ws p w keys g).given (exprs_grow ws p w keys g)
  stmt_grows ws (choose c first second) p g w =
      let x = flat_expr ws p w c g in
      let a = flat_body ws first (below p x.given) (opened p x.id true x.given) w in
      choice_grows ws p g x a (second_side (is_empty second) p x.id (flat_body ws second) a.given w) (expr_grows ws p w c g)
      (body_grows ws first (below p x.given) (opened p x.id true x.given) w)
      (second_grows (is_empty second) p x.id (flat_body ws second) (body_grows ws second) a.given w)
  stmt_grows ws (repeat index count body) p g w = turns_grow ws count 0 index (flat_body ws body) (body_grows ws body) (looping p) g w
  stmt_grows ws (send port) p g w = expr_grows ws p w port g
  stmt_grows ws drop p g w = grows g

  pub body_grows : (ws : List ℕ) (b : BodyTree) → Growing (flat_body ws b)
  body_grows ws done p g w = grows g
  body_grows ws (stmt s rest) p g w = in_order_grows ws (flat_stmt ws s) (flat_body ws rest) (stmt_grows ws s) (body_grows ws rest) p g w

pub over_stmt : (ws : List ℕ) (s : StmtTree) (p : Place) (g : Emitted) (w : View) (e : FlatError) → IsOver g e → IsOver (flat_stmt ws s p g w).given e
over_stmt ws s p g w e over = over_later g (flat_stmt ws s p g w).given e (stmt_grows ws s p g w) over

-- ## Choices

-- too much in the second side of a choice, and in the first
pub second_over : (ws : List ℕ) (p : Place) (second : BodyTree) (v : ValueId) (a : At) (w : View) (e : FlatError) → IsOver (second_side (is_empty second) p v (flat_body ws second) a.given w).given e → IsOver (rest_at ws p second v a w).given e
second_over ws p second v a w e over =
    let b = second_side (is_empty second) p v (flat_body ws second) a.given w in
    over_later b.given (join ws p v a.view b).given e (join_grows ws p v a.view b) over

rest_grows : (ws : List ℕ) (p : Place) (second : BodyTree) (v : ValueId) (a : At) (w : View) → Grows a.given (rest_at ws p second v a w).given
rest_grows ws p second v a w =
    let b = second_side (is_empty second) p v (flat_body ws second) a.given w in
    then_grows a.given b.given (join ws p v a.view b).given (second_grows (is_empty second) p v (flat_body ws second) (body_grows ws second) a.given w) (join_grows ws p v a.view b)

pub first_over : (ws : List ℕ) (p : Place) (c : ExprTree) (first second b : BodyTree) (g : Emitted) (w : View) (x : Valued) (e : FlatError) → x ≡ flat_expr ws p w c g → b ≡ first → IsOver (first_at ws p b x w).given e
    → IsOver (flat_stmt ws (choose c first second) p g w).given e
first_over ws p c first second b g w x e ex eb over =
    let y = flat_expr ws p w c g in
    let a = first_at ws p first y w in
    over_later a.given (rest_at ws p second y.id a w).given e (rest_grows ws p second y.id a w)
    (subst (λ z. IsOver (first_at ws p first z w).given e) ex (subst (λ b. IsOver (first_at ws p b x w).given e) eb over))
