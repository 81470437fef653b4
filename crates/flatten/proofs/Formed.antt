-- What is given for each piece of a good middlebox is well formed.
use Rattle.std.proofs.Common.{◌≡◌, ℕ, zero, suc, ◌+◌, ◌<◌, ◌≤◌, ◌^◌, ◌==◌, Bool, true, false, ◌&&◌, ◌||◌, not, List, [], ◌∷◌, ◌++◌, map, length, nat_le, Option, Some, None, unwrap_or, slice_get, slice_index, refl, sym, ap, ◌∙◌, subst, arith, true≢false, eqb-true, leb-true, eq-eqb, lit<, lit≤, is_some}
use Rattle.std.specs.Option.{option_map}
use Rattle.std.proofs.lemmas.Bool.{and_from, lt-ltb, or_left, or_right}
use Rattle.std.specs.List.{AllByRecursion as Each}
use Rattle.std.proofs.lemmas.List.{get_or-set_other}
use Rattle.gal_bits.specs.declared.op.Op.{Op}
use Rattle.gal_bits.specs.declared.op.Op.TheVariants.{Select}
use Rattle.gal_bits.specs.Operators.{bit, value_of as operator_value}
use Rattle.packet_fields.specs.declared.field.Field.{Field}
use Rattle.packet_fields.specs.declared.packet.Packet.{Packet}
use Rattle.packet_fields.specs.Table.{row, field_index}
use Rattle.state_store.specs.declared.object.ObjectDecl.{ObjectDecl}
use Rattle.state_store.specs.Store.{object_at, with_object, is_stored, put_answer, put_row, del_row}
use Rattle.state_store.specs.Store as store
use Rattle.element_lang.specs.KeptRuns.{Fits, bound_fits, stmt_fits, value_fits}
use Rattle.element_lang.specs.Meaning as source
use Rattle.element_lang.specs.Meaning.{State, Running, then_do, value_of, values_of, turns, do_stmt, do_body}
use Rattle.element_lang.specs.Tree.{ExprTree, Exprs, StmtTree, BodyTree, Tree}
use Rattle.element_lang.specs.Tree.ExprTree.{lit, local}
use Rattle.element_lang.specs.Tree.Exprs.{no_expr, expr}
use Rattle.element_lang.specs.Widths.{local_widths, width_of}
use Rattle.element_lang.specs.Rules.{widths_of, fits_operator, is_width, is_shift, fits_keys, fits_values, can_put, can_del, is_good_expr, are_good_exprs, are_good_objects, is_good_stmt, is_good_body, binds, is_empty, is_count, declared_in, declared_by}
use Rattle.flat_ir.specs.declared.program.ValueId.{ValueId}
use Rattle.flat_ir.specs.Program as flat
use Rattle.flat_ir.specs.Program.{Program, Work, is_named, width_of_value, value_widths, result_widths, result_count}
use Rattle.flat_ir.specs.Blocks.{is_on, same}
use Rattle.flat_ir.specs.Run.{put_change, del_change}
use Rattle.flat_ir.specs.Fits as fitting
use Rattle.flat_ir.specs.WellFormed.{IsSeenFrom}
use Rattle.flatten.specs.declared.place.Place.{Place}
use Rattle.flatten.specs.declared.place.Ending.{Ending}
use Rattle.flatten.specs.declared.place.Ending.TheVariants.{No, Yes, Maybe}
use Rattle.flatten.specs.Flatten.{Emitted, View, At, Valued, Listed, Flattener, result_of, value_at, nought, one, nought_port, emit, give, opened, below, operation, merge_id, merge_ids, field_widths, merge_ended, ended_id, ends, join, follow, go_on, in_order, flat_expr, flat_exprs, bound, bound_to, assigned, finished, looping, second_side, flat_turn, flat_turns, flat_stmt, flat_body, constants}
use Rattle.flatten.specs.Occurs.{same_field, is_in_expr, is_in_exprs, is_in_stmt, is_in_body}
use Rattle.gal_bits.specs.Fits.{same_list}
use Rattle.packet_fields.specs.FieldOrder.{field_width_at, same_index}
use Rattle.flatten.proofs.GoodSizes.{Wide, wide_in, wide_both, field_wide, binds_wide}
use Rattle.flatten.proofs.Growth.{Grows, grows, then_grows, emit_grows, open_grows, expr_grows, exprs_grow, merge_id_grows, merge_ids_grow, merge_ended_grows, join_grows, Growing, second_grows, turn_grows, turns_grow, stmt_grows, body_grows}
use Rattle.flatten.proofs.Meanings.{Run, val, lv, emit_reads, emit_still, open_live, nought_is, merge_id_means, merge_ids_means, merge_ended_means, Joined as JoinedRun, Valuable, Listable, valued_emit, operation_means, Doing, Sound, Carried, nothing_means, both_means, carried_sound, running_means, ended_means, follow_means, choose_means, bind_means, set_field_means, write_means, look_means, turn_means, send_means, drop_means}
use Rattle.flatten.proofs.Views.{AllHave, all_map, have_at, have_set, have_scope, IsThere, there_set, Knows, known_at, there_scope}
use Rattle.flatten.proofs.Writes.{put_tells, del_tells}
use Rattle.flatten.proofs.FormedPieces.{whole, IsPart, Ready, ready_more, Sided, sided_more, sided_of, IsFormed, low_of, Open, open_more, WorkFits, emit_formed, given_ready, open_formed, open_below, ready_below, sided_above, Constants, constants_ready, select_fits, Formed, merge_id_formed, merge_ids_formed, merge_ended_formed}
use Rattle.lemmas.proofs.Lists.{each_append}
use Rattle.lemmas.proofs.Tests.{and_first, and_second}
use Rattle.flatten.proofs.ScopeKept.{Keeps, keeps_refl, keeps_trans, keeps_bound, keeps_bound_to, knows_keeps, knows_bound, Leads, knows_after}

-- the widths of a declaration's values
abbrev value_widths_of : Option ObjectDecl → List ℕ
value_widths_of d = unwrap_or (option_map (λ (d : ObjectDecl). d.values) d) []

as_declared : (d : Option ObjectDecl) (ls : List ℕ) → fits_values d ls ≡ true → ls ≡ value_widths_of d
as_declared None ls h = absurd (true≢false (sym h))
as_declared (Some d) ls h = same_list ls d.values h

module _ (m : Tree) (F : Program) (same_objects : F.objects ≡ m.objects) (base : IsPart F constants) (declared : are_good_objects [] m.objects ≡ true) (occurs : Field → Bool) where
  abbrev ws : List ℕ
  ws = local_widths m

  -- this holds of each value of a state
  pub record Holds (P : ℕ → ValueId → Type 0) (w : View) : Type 0 where
    pub locals : AllHave P ws w.locals
    pub fields : AllHave P field_widths w.fields
    pub send : P 1 w.send
    pub port : P 8 w.port
    pub ended : P 1 (ended_id w.ended)

  holds_map : (P Q : ℕ → ValueId → Type 0) → ((n : ℕ) (v : ValueId) → P n v → Q n v) → (w : View) → Holds P w → Holds Q w
  holds_map P Q go w h = record {
    locals = all_map P Q go ws w.locals h.locals;
    fields = all_map P Q go field_widths w.fields h.fields;
    send = go 1 w.send h.send;
    port = go 8 w.port h.port;
    ended = go 1 (ended_id w.ended) h.ended;
  }

  holds_more : (k n n' : ℕ) → n ≤ n' → (w : View) → Holds (Ready F k n) w → Holds (Ready F k n') w
  holds_more k n n' le = holds_map (Ready F k n) (Ready F k n') (ready_more F k n n' le)

  holds_ends : (P : ℕ → ValueId → Type 0) (w : View) (e : Ending) → P 1 (ended_id e) → Holds P w → Holds P (ends e w)
  holds_ends P w e new h = record { locals = h.locals; fields = h.fields; send = h.send; port = h.port; ended = new }

  holds_bound : (P : ℕ → ValueId → Type 0) (w : View) (x : ℕ) (id : ValueId) → P (slice_index ws x) id → Holds P w → Holds P (bound x id w)
  holds_bound P w x id new h = record { locals = have_set P ws w.locals x id h.locals new; fields = h.fields; send = h.send; port = h.port; ended = h.ended }

  -- the state in front of a piece, and what is given by then
  pub record Ahead (p : Place) (g : Emitted) (w : View) : Type 0 where
    pub formed : IsFormed F g
    pub opens : Open F g p.block
    pub some : 2 < length g.code
    pub holds : Holds (Ready F p.block (length g.code)) w

  ahead_later : (p : Place) (g g' : Emitted) (w : View) → Grows g g' → IsFormed F g' → Ahead p g w → Ahead p g' w
  ahead_later p g g' w q h a = record {
    formed = h;
    opens = open_more F g g' p.block q a.opens;
    some = omega (arith, a.some, q.longer);
    holds = holds_more p.block (length g.code) (length g'.code) q.longer w a.holds;
  }

  constants_at : (p : Place) (g : Emitted) (w : View) → Ahead p g w → Constants F p.block (length g.code)
  constants_at p g w a = constants_ready F base (length g.blocks) (low_of F g a.formed) p.block a.opens.within (length g.code) a.some

  -- ## Two states made one

  record Joined (k : ℕ) (v : ValueId) (g : Emitted) (a b : View) (r : At) : Type 0 where
    formed : IsFormed F r.given
    holds : Holds (Ready F k (length r.given.code)) r.view
    keeps : (w : View) → Keeps w a → Keeps w b → Keeps w r.view
    means : (c : Run F) → JoinedRun F c base m occurs v g a b r

  join_formed : (p : Place) (v : ValueId) (a : View) (rb : At) → IsPart F (join ws p v a rb).given → IsFormed F rb.given → Open F rb.given p.block → 2 < length rb.given.code → Ready F p.block (length rb.given.code) 1 v
      → Holds (Sided F p.block (length rb.given.code) v true) a → Holds (Sided F p.block (length rb.given.code) v false) rb.view → Joined p.block v rb.given a rb.view (join ws p v a rb)
  join_formed p v a rb part h opens some rv ha hb =
      let k = p.block in
      let b = rb.view in
      let g = rb.given in
      let n = length g.code in
      let r1 = merge_ids p v ws a.locals b.locals g in
      let g1 = r1.given in
      let n1 = length g1.code in
      let r2 = merge_ids p v field_widths a.fields b.fields g1 in
      let g2 = r2.given in
      let n2 = length g2.code in
      let r3 = merge_id p v 1 a.send b.send g2 in
      let g3 = r3.given in
      let n3 = length g3.code in
      let r4 = merge_id p v 8 a.port b.port g3 in
      let g4 = r4.given in
      let n4 = length g4.code in
      let r5 = merge_ended p v a.ended b.ended g4 in
      let g5 = r5.given in
      let n5 = length g5.code in
      let w1 = merge_ids_grow p v ws a.locals b.locals g in
      let w2 = merge_ids_grow p v field_widths a.fields b.fields g1 in
      let w3 = merge_id_grows p v 1 a.send b.send g2 in
      let w4 = merge_id_grows p v 8 a.port b.port g3 in
      let w5 = merge_ended_grows p v a.ended b.ended g4 in
      let u2 = then_grows g g1 g2 w1 w2 in
      let u3 = then_grows g g2 g3 u2 w3 in
      let u4 = then_grows g g3 g4 u3 w4 in
      let p4 = then_grows g4 g5 (whole F) w5 part in
      let p3 = then_grows g3 g4 (whole F) w4 p4 in
      let p2 = then_grows g2 g3 (whole F) w3 p3 in
      let p1 = then_grows g1 g2 (whole F) w2 p2 in
      let s1 = merge_ids_formed F p v ws a.locals b.locals g p1 h opens rv ha.locals hb.locals in
      let s2 = merge_ids_formed F p v field_widths a.fields b.fields g1 p2 s1.formed (open_more F g g1 k w1 opens) (ready_more F k n n1 w1.longer 1 v rv)
      (all_map (Sided F k n v true) (Sided F k n1 v true) (sided_more F k n n1 v true w1.longer) field_widths a.fields ha.fields)
      (all_map (Sided F k n v false) (Sided F k n1 v false) (sided_more F k n n1 v false w1.longer) field_widths b.fields hb.fields) in
      let s3 = merge_id_formed F p v 1 a.send b.send g2 p3 s2.formed (open_more F g g2 k u2 opens) (ready_more F k n n2 u2.longer 1 v rv)
      (sided_more F k n n2 v true u2.longer 1 a.send ha.send) (sided_more F k n n2 v false u2.longer 1 b.send hb.send) in
      let s4 = merge_id_formed F p v 8 a.port b.port g3 p4 s3.formed (open_more F g g3 k u3 opens) (ready_more F k n n3 u3.longer 1 v rv)
      (sided_more F k n n3 v true u3.longer 8 a.port ha.port) (sided_more F k n n3 v false u3.longer 8 b.port hb.port) in
      let o4 = open_more F g g4 k u4 opens in
      let cs = constants_ready F base (length g4.blocks) (low_of F g4 s4.formed) k o4.within n4 (omega (arith, some, u4.longer)) in
      let s5 = merge_ended_formed F p v a.ended b.ended g4 part s4.formed o4 cs (ready_more F k n n4 u4.longer 1 v rv)
      (sided_more F k n n4 v true u4.longer 1 (ended_id a.ended) ha.ended) (sided_more F k n n4 v false u4.longer 1 (ended_id b.ended) hb.ended) in
      let q3 = then_grows g3 g4 g5 w4 w5 in
      let q2 = then_grows g2 g3 g5 w3 q3 in
      let q1 = then_grows g1 g2 g5 w2 q2 in
      record {
        formed = s5.formed;
        holds = record {
          locals = all_map (Ready F k n1) (Ready F k n5) (ready_more F k n1 n5 q1.longer) ws r1.ids s1.ready;
          fields = all_map (Ready F k n2) (Ready F k n5) (ready_more F k n2 n5 q2.longer) field_widths r2.ids s2.ready;
          send = ready_more F k n3 n5 q3.longer 1 r3.id s3.ready;
          port = ready_more F k n4 n5 w5.longer 8 r4.id s4.ready;
          ended = s5.ready;
        };
        keeps = λ w ka kb. record {
          locals = λ x there. s1.there x (ka.locals x there) (kb.locals x there);
          fields = λ x there. s2.there x (ka.fields x there) (kb.fields x there);
          fixed = λ f e. s2.alike (field_index f) (ka.fixed f e ∙ sym (kb.fixed f e)) ∙ ka.fixed f e;
        };
        means = λ c.
            let t1 = merge_ids_means F c base (Sided F k n v true) (Sided F k n v false) p v ws a.locals b.locals g p1 ha.locals hb.locals in
            let t2 = merge_ids_means F c base (Sided F k n v true) (Sided F k n v false) p v field_widths a.fields b.fields g1 p2 ha.fields hb.fields in
            let t3 = merge_id_means F c base p v 1 a.send b.send g2 p3 in
            let t4 = merge_id_means F c base p v 8 a.port b.port g3 p4 in
            let t5 = merge_ended_means F c base p v a.ended b.ended g4 part in
            record {
              still = t5.still ∙ t4.still ∙ t3.still ∙ t2.still ∙ t1.still;
              first = λ on. record { locals = t1.first on; fields = t2.first on; send = t3.first on; port = t4.first on; ended = t5.first on };
              second = λ off. record { locals = t1.second off; fields = t2.second off; send = t3.second off; port = t4.second off; ended = t5.second off };
            };
      }

  -- ## Expressions

  -- one more instruction, and the first of its results
  give_formed : (p : Place) (work : Work) (g : Emitted) (w : View) (width : ℕ) → IsPart F (emit p work g) → Ahead p g w → WorkFits F p.block (length g.code) work → 0 < result_count F.objects work → slice_index (result_widths F.objects work) 0 ≡ width
      → Formed F p.block width (give p work g)
  give_formed p work g w width part a fit some e = record {
    formed = emit_formed F p work g part a.formed a.opens fit;
    ready = subst (λ n. Ready F p.block (length (emit p work g).code) n (result_of (length g.code) 0)) e (given_ready F p work g part 0 some);
  }

  abbrev AreReady : ℕ → ℕ → List ℕ → List ValueId → Type 0
  AreReady k n [] [] = Unit {0}
  AreReady k n (w ∷ ls) (v ∷ vs) = Ready F k n w v × AreReady k n ls vs
  AreReady k n _ _ = ⊥

  ready_widths : (k n : ℕ) (ls : List ℕ) (vs : List ValueId) → AreReady k n ls vs → fitting.widths_of F vs ≡ ls
  ready_widths k n [] [] h = refl
  ready_widths k n (w ∷ ls) (v ∷ vs) h = ap (λ x. x ∷ fitting.widths_of F vs) h.0.wide ∙ ap (λ l. w ∷ l) (ready_widths k n ls vs h.1)
  ready_widths k n _ _ h = absurd h

  ready_each : (k n : ℕ) (P : ValueId → Type 0) → ((w : ℕ) (v : ValueId) → Ready F k n w v → P v) → (ls : List ℕ) (vs : List ValueId) → AreReady k n ls vs → Each P vs
  ready_each k n P go [] [] h = tt
  ready_each k n P go (w ∷ ls) (v ∷ vs) h = (go w v h.0, ready_each k n P go ls vs h.1)
  ready_each k n _ go _ _ h = absurd h

  all_before : (k n : ℕ) (ls : List ℕ) (vs : List ValueId) → AreReady k n ls vs → Each (λ (v : ValueId). v.instruction < n) vs
  all_before k n = ready_each k n (λ v. v.instruction < n) (λ w v h. h.before)

  all_named : (k n : ℕ) (ls : List ℕ) (vs : List ValueId) → AreReady k n ls vs → Each (λ v. is_named F v ≡ true) vs
  all_named k n = ready_each k n (λ v. is_named F v ≡ true) (λ w v h. h.named)

  all_seen : (k n : ℕ) (ls : List ℕ) (vs : List ValueId) → AreReady k n ls vs → Each (IsSeenFrom F k) vs
  all_seen k n = ready_each k n (IsSeenFrom F k) (λ w v h. h.seen)

  are_more : (k n n' : ℕ) → n ≤ n' → (ls : List ℕ) (vs : List ValueId) → AreReady k n ls vs → AreReady k n' ls vs
  are_more k n n' le [] [] h = tt
  are_more k n n' le (w ∷ ls) (v ∷ vs) h = (ready_more F k n n' le w v h.0, are_more k n n' le ls vs h.1)
  are_more k n n' le _ _ h = h

  apply_fits : (k n : ℕ) (op : Op) (w : ℕ) (ls : List ℕ) (vs : List ValueId) → not (fitting.is_select op) ≡ true → AreReady k n ls vs → fits_operator op w ls ≡ true → WorkFits F k n (flat.apply op w vs)
  apply_fits k n op w ls vs other h good = record {
    before = all_before k n ls vs h;
    names = all_named k n ls vs h;
    sees = all_seen k n ls vs h;
    fit = and_from (not (fitting.is_select op)) (fits_operator op w (fitting.widths_of F vs)) other (subst (λ l. fits_operator op w l ≡ true) (sym (ready_widths k n ls vs h)) good);
  }

  select_three : (k n w : ℕ) (vs : List ValueId) → AreReady k n (1 ∷ w ∷ w ∷ []) vs → WorkFits F k n (operation Select w vs)
  select_three k n w [] h = absurd h
  select_three k n w (a ∷ []) h = absurd h.1
  select_three k n w (a ∷ b ∷ []) h = absurd h.1.1
  select_three k n w (a ∷ b ∷ c ∷ []) h = select_fits F k n a w b c h.0 (sided_of F k n a true w b h.1.0) (sided_of F k n a false w c h.1.1.0)
  select_three k n w (a ∷ b ∷ c ∷ d ∷ vs) h = absurd h.1.1.1

  operation_fits : (k n : ℕ) (op : Op) (w : ℕ) (ls : List ℕ) (vs : List ValueId) → AreReady k n ls vs → fits_operator op w ls ≡ true → WorkFits F k n (operation op w vs)
  operation_fits k n Select w ls vs h good = select_three k n w vs (subst (λ l. AreReady k n l vs) (same_list ls (1 ∷ w ∷ w ∷ []) good) h)
  operation_fits k n op w ls vs h good = apply_fits k n op w ls vs refl h good

  -- an operation has one result
  record HasOne (w : ℕ) (work : Work) : Type 0 where
    some : 0 < result_count F.objects work
    wide : slice_index (result_widths F.objects work) 0 ≡ w

  apply_one : (op : Op) (w : ℕ) (vs : List ValueId) → HasOne w (flat.apply op w vs)
  apply_one op w vs = record { some = lit< tt; wide = refl }

  operation_one : (op : Op) (w : ℕ) (vs : List ValueId) → HasOne w (operation op w vs)
  operation_one Select w (a ∷ b ∷ c ∷ []) = record { some = lit< tt; wide = refl }
  operation_one op w vs = apply_one op w vs

  abbrev Shown : (Field → Bool) → View → Type 0
  Shown test w = (f : Field) → test f ≡ true → IsThere w.fields (field_index f)

  record Forms (k : ℕ) (ls : List ℕ) (r : Listed) : Type 0 where
    formed : IsFormed F r.given
    ready : AreReady k (length r.given.code) ls r.ids

  -- an expression's value is given for it
  abbrev IsExpressed : Place → View → ExprTree → Emitted → Valued → Type 0
  IsExpressed p w e g r = Formed F p.block (width_of ws e) r × ((c : Run F) → Valuable F c base m occurs e w g r)

  abbrev AreExpressed : Place → View → Exprs → Emitted → Listed → Type 0
  AreExpressed p w es g r = Forms p.block (widths_of ws es) r × ((c : Run F) → Listable F c base m occurs es w g r)

  mutual
    expr_formed : (scope : List ℕ) (p : Place) (w : View) (e : ExprTree) (g : Emitted) → is_good_expr ws scope e ≡ true → IsPart F (flat_expr ws p w e g).given → Wide ws scope → Knows scope w.locals → Shown (λ f. is_in_expr f e) w → Ahead p g w
        → IsExpressed p w e g (flat_expr ws p w e g)
    expr_formed scope p w (lit value width) g good part wide kn sh a = (
      give_formed p (flat.const width value) g w width part a (record { before = tt; names = tt; sees = tt; fit = and_second (is_width width) _ good }) (lit< tt) refl,
      λ c. valued_emit F c base m occurs p (flat.const width value) (lit value width) w g g part refl refl (λ s a a'. refl),
    )
    expr_formed scope p w (local x) g good part wide kn sh a =
        let there = known_at scope w.locals x kn good in (
          record {
            formed = a.formed;
            ready = have_at (Ready F p.block (length g.code)) ws w.locals x (λ none. absurd (omega (arith, none, wide_in ws scope x good wide))) there a.holds.locals;
          },
          λ c. record { still = refl; reads = λ s a a'. have_at (λ u v. val F c v ≡ u) s.locals w.locals x (λ e. nought_is F c base) there a },
        )
    expr_formed scope p w (ExprTree.field h) g good part wide kn sh a =
        let i = field_index h in
        let there = sh h (eq-eqb i i refl) in
        let some : 1 ≤ slice_index field_widths i = subst (λ n. 1 ≤ n) (sym (field_width_at h)) (field_wide h) in (
          record {
            formed = a.formed;
            ready = subst (λ n. Ready F p.block (length g.code) n (value_at w.fields i)) (field_width_at h)
                (have_at (Ready F p.block (length g.code)) field_widths w.fields i (λ none. absurd (omega (arith, none, some))) there a.holds.fields);
          },
          λ c. record { still = refl; reads = λ s a a'. have_at (λ u v. val F c v ≡ u) s.fields w.fields i (λ e. nought_is F c base) there a' },
        )
    expr_formed scope p w (ExprTree.byte index) g good part wide kn sh a =
        let r = flat_expr ws p w index g in
        let work = flat.byte r.id in
        let d = expr_formed scope p w index g (and_first _ _ good) (then_grows r.given (emit p work r.given) (whole F) (emit_grows p work r.given) part) wide kn sh a in
        let s = d.0 in (
          give_formed p work r.given w 8 part (ahead_later p g r.given w (expr_grows ws p w index g) s.formed a)
              (record { before = (s.ready.before, tt); names = (s.ready.named, tt); sees = s.ready.seen; fit = eq-eqb (width_of_value F r.id) 16 (s.ready.wide ∙ eqb-true (width_of ws index) 16 (and_second (is_good_expr ws scope index) _ good)) })
              (lit< tt) refl,
          λ c. valued_emit F c base m occurs p work (ExprTree.byte index) w g r.given part (d.1 c).still refl (λ s a a'. ap (slice_index c.packet.bytes) ((d.1 c).reads s a a')),
        )
    expr_formed scope p w (ExprTree.shift op by arg) g good part wide kn sh a =
        let r = flat_expr ws p w arg g in
        let width = width_of ws arg in
        let work = flat.shift op width r.id by in
        let d = expr_formed scope p w arg g (and_second _ (is_good_expr ws scope arg) good) (then_grows r.given (emit p work r.given) (whole F) (emit_grows p work r.given) part) wide kn sh a in
        let s = d.0 in (
          give_formed p work r.given w width part (ahead_later p g r.given w (expr_grows ws p w arg g) s.formed a)
              (record { before = (s.ready.before, tt); names = (s.ready.named, tt); sees = s.ready.seen; fit = and_from (is_shift op && nat_le by 63) (width_of_value F r.id == width) (and_first _ (is_good_expr ws scope arg) good) (eq-eqb (width_of_value F r.id) width s.ready.wide) })
              (lit< tt) refl,
          λ c. valued_emit F c base m occurs p work (ExprTree.shift op by arg) w g r.given part (d.1 c).still refl (λ s a a'. ap (λ n. operator_value op width (n ∷ by ∷ [])) ((d.1 c).reads s a a')),
        )
    expr_formed scope p w (ExprTree.apply op width args) g good part wide kn sh a =
        let r = flat_exprs ws p w args g in
        let work = operation op width r.ids in
        let d = exprs_formed scope p w args g (and_first (are_good_exprs ws scope args) _ good) (then_grows r.given (emit p work r.given) (whole F) (emit_grows p work r.given) part) wide kn sh a in
        let s = d.0 in
        let only = operation_one op width r.ids in (
          give_formed p work r.given w width part (ahead_later p g r.given w (exprs_grow ws p w args g) s.formed a)
              (operation_fits p.block (length r.given.code) op width (widths_of ws args) r.ids s.ready (and_second _ (fits_operator op width (widths_of ws args)) good)) only.some only.wide,
          λ c. operation_means F c base m occurs p op width args w g r part (d.1 c),
        )

    exprs_formed : (scope : List ℕ) (p : Place) (w : View) (es : Exprs) (g : Emitted) → are_good_exprs ws scope es ≡ true → IsPart F (flat_exprs ws p w es g).given → Wide ws scope → Knows scope w.locals → Shown (λ f. is_in_exprs f es) w → Ahead p g w
        → AreExpressed p w es g (flat_exprs ws p w es g)
    exprs_formed scope p w no_expr g good part wide kn sh a = (record { formed = a.formed; ready = tt }, λ c. record { still = refl; reads = λ s a a'. refl })
    exprs_formed scope p w (expr e es) g good part wide kn sh a =
        let r = flat_expr ws p w e g in
        let rest = flat_exprs ws p w es r.given in
        let grow = exprs_grow ws p w es r.given in
        let d = expr_formed scope p w e g (and_first (is_good_expr ws scope e) _ good) (then_grows r.given rest.given (whole F) grow part) wide kn (λ h is. sh h (or_left (is_in_expr h e) (is_in_exprs h es) is)) a in
        let s = d.0 in
        let b = ahead_later p g r.given w (expr_grows ws p w e g) s.formed a in
        let t = exprs_formed scope p w es r.given (and_second _ (are_good_exprs ws scope es) good) part wide kn (λ h is. sh h (or_right (is_in_expr h e) (is_in_exprs h es) is)) b in (
          record { formed = t.0.formed; ready = (ready_more F p.block (length r.given.code) (length rest.given.code) grow.longer (width_of ws e) r.id s.ready, t.0.ready) },
          λ c. record {
            still = (t.1 c).still ∙ (d.1 c).still;
            reads = λ st a a'. ap (λ n. n ∷ map (val F c) rest.ids) ((d.1 c).reads st a a') ∙ ap (λ l. value_of ws c.packet e st ∷ l) ((t.1 c).reads st a a');
          },
        )

  -- ## Pieces

  -- what is given for a piece keeps what holds, and the state behind it is ready
  pub record Made (k : ℕ) (w : View) (r : At) : Type 0 where
    pub formed : IsFormed F r.given
    pub holds : Holds (Ready F k (length r.given.code)) r.view
    pub keeps : Keeps w r.view

  ahead_made : (p : Place) (g : Emitted) (w : View) (r : At) → Grows g r.given → Ahead p g w → Made p.block w r → Ahead p r.given r.view
  ahead_made p g w r q a h = record { formed = h.formed; opens = open_more F g r.given p.block q a.opens; some = omega (arith, a.some, q.longer); holds = h.holds }

  -- pieces of a scope, in any place: what they give is well formed, and does what the source does
  abbrev pub Code : Type 0
  Code = Packet → Doing

  abbrev IsPiece : List ℕ → Flattener → ((p : Place) (g : Emitted) (w : View) → Run F → Type 0) → Type 0
  IsPiece scope piece Means = (p : Place) (g : Emitted) (w : View) → IsPart F (piece p g w).given → Ahead p g w → Knows scope w.locals → Shown occurs w → Made p.block w (piece p g w) × ((c : Run F) → Means p g w c)

  abbrev IsMade : List ℕ → Code → Flattener → Type 0
  IsMade scope go piece = IsPiece scope piece (λ p g w c. Sound F c base m occurs (lv F c p.block) g w (go c.packet) (piece p g w))

  -- and they leave a run that has ended
  abbrev pub IsCarried : List ℕ → Code → Flattener → Type 0
  IsCarried scope go piece = IsPiece scope piece (λ p g w c. Carried F c base m occurs (lv F c p.block) g w (go c.packet) (piece p g w))

  as_made : (scope : List ℕ) (go : Code) (piece : Flattener) → IsCarried scope go piece → IsMade scope go piece
  as_made scope go piece carried p g w part a kn sh =
      let d = carried p g w part a kn sh in
      (d.0, λ c. carried_sound F c base m occurs (lv F c p.block) g w (go c.packet) (piece p g w) (d.1 c))

  -- the same of a piece in a block below
  record Side (k : ℕ) (v : ValueId) (polarity : Bool) (g : Emitted) (w : View) (go : Code) (r : At) : Type 0 where
    formed : IsFormed F r.given
    holds : Holds (Sided F k (length r.given.code) v polarity) r.view
    keeps : Keeps w r.view
    means : (c : Run F) → Sound F c base m occurs (same polarity (is_on (val F c v)) && lv F c k) g w (go c.packet) r

  side_made : (scope : List ℕ) (go : Code) (piece : Flattener) → IsMade scope go piece → Growing piece → (p : Place) (v : ValueId) (polarity : Bool) (g : Emitted) (w : View) → IsPart F (piece (below p g) (opened p v polarity g) w).given → Ahead p g w
      → Ready F p.block (length g.code) 1 v → Knows scope w.locals → Shown occurs w → Side p.block v polarity g w go (piece (below p g) (opened p v polarity g) w)
  side_made scope go piece made growing p v polarity g w part a rv kn sh =
      let k = suc (length g.blocks) in
      let n = length g.code in
      let o = opened p v polarity g in
      let q = below p g in
      let r = piece q o w in
      let part_o : IsPart F o = then_grows o r.given (whole F) (growing q o w) part in
      let formed = open_formed F p v polarity g part_o a.formed a.opens rv in
      let low = low_of F o formed in
      let opens = open_below F p v polarity g part_o a.formed a.opens rv in
      let a' : Ahead q o w = record {
        formed = formed;
        opens = opens;
        some = a.some;
        holds = holds_map (Ready F p.block n) (Ready F k n) (ready_below F p v polarity g part_o low) w a.holds;
      } in
      let d = made q o w part a' kn sh in
      let n' = length r.given.code in
      record {
        formed = d.0.formed;
        holds = holds_map (Ready F k n') (Sided F p.block n' v polarity) (sided_above F p v polarity g part_o low n') r.view d.0.holds;
        keeps = d.0.keeps;
        means = λ c.
            let live = open_live F c p v polarity g part_o in
            let sound = d.1 c in
            record { dead = λ off. sound.dead (live ∙ off); alive = λ on. sound.alive (live ∙ on) };
      }

  side_empty : (p : Place) (v : ValueId) (polarity : Bool) (g : Emitted) (w : View) → Ahead p g w → Side p.block v polarity g w (λ packet. Running) (record { given = g; view = w })
  side_empty p v polarity g w a = record {
    formed = a.formed;
    holds = holds_map (Ready F p.block (length g.code)) (Sided F p.block (length g.code) v polarity) (sided_of F p.block (length g.code) v polarity) w a.holds;
    keeps = keeps_refl w;
    means = λ c. record { dead = λ off. refl; alive = λ on s z. z };
  }

  -- ## What follows

  follow_made : (scope : List ℕ) (go : Code) (piece : Flattener) → IsMade scope go piece → Growing piece → (p : Place) (u : ValueId) (g : Emitted) (w : View) → IsPart F (follow ws p u piece g w).given → Ahead p g w
      → Ready F p.block (length g.code) 1 u → Knows scope w.locals → Shown occurs w → w.ended ≡ Maybe u
      → Made p.block w (follow ws p u piece g w) × ((c : Run F) → Carried F c base m occurs (lv F c p.block) g w (go c.packet) (follow ws p u piece g w))
  follow_made scope go piece made growing p u g w part a ru kn sh e =
      let k = p.block in
      let n = length g.code in
      let o = opened p u false g in
      let q = below p g in
      let w' = ends No w in
      let r = piece q o w' in
      let j = join ws p u (ends Yes w) r in
      let gj = join_grows ws p u (ends Yes w) r in
      let gr = then_grows g o r.given (open_grows p u false g) (growing q o w') in
      let n' = length r.given.code in
      let cs = constants_at p g w a in
      let a' : Ahead p g w' = record { formed = a.formed; opens = a.opens; some = a.some; holds = holds_ends (Ready F k n) w No cs.nought a.holds } in
      let s = side_made scope go piece made growing p u false g w' (then_grows r.given j.given (whole F) gj part) a' ru kn sh in
      let first : Holds (Sided F k n' u true) (ends Yes w) =
      holds_map (Ready F k n') (Sided F k n' u true) (sided_of F k n' u true) (ends Yes w) (holds_more k n n' gr.longer (ends Yes w) (holds_ends (Ready F k n) w Yes cs.one a.holds)) in
      let d = join_formed p u (ends Yes w) r part s.formed (open_more F g r.given k gr a.opens) (omega (arith, a.some, gr.longer)) (ready_more F k n n' gr.longer 1 u ru) first s.holds in
      let ky : Keeps w (ends Yes w) = record { locals = λ x h. h; fields = λ x h. h; fixed = λ h e. refl } in
      let kn' : Keeps w w' = record { locals = λ x h. h; fields = λ x h. h; fixed = λ h e. refl } in
      (record { formed = d.formed; holds = d.holds; keeps = d.keeps w ky (keeps_trans w w' r.view kn' s.keeps) }, λ c. follow_means F c base m occurs k u g w (go c.packet) r j e (s.means c) (d.means c))

  nothing_made : (p : Place) (g : Emitted) (w : View) → Ahead p g w → Made p.block w (record { given = g; view = w })
  nothing_made p g w a = record { formed = a.formed; holds = a.holds; keeps = keeps_refl w }

  nothing_carried : (scope : List ℕ) → IsCarried scope (λ packet. Running) (λ p g w. record { given = g; view = w })
  nothing_carried scope p g w part a kn sh = (nothing_made p g w a, λ c. nothing_means F c base m occurs (lv F c p.block) g w)

  go_on_made : (ending : Ending) (scope : List ℕ) (go : Code) (piece : Flattener) → IsMade scope go piece → Growing piece → (p : Place) (g : Emitted) (w : View) → w.ended ≡ ending → IsPart F (go_on ws ending p piece g w).given → Ahead p g w
      → Knows scope w.locals → Shown occurs w
      → Made p.block w (go_on ws ending p piece g w) × ((c : Run F) → Carried F c base m occurs (lv F c p.block) g w (go c.packet) (go_on ws ending p piece g w))
  go_on_made No scope go piece made growing p g w e part a kn sh =
      let d = made p g w part a kn sh in
      (d.0, λ c. running_means F c base m occurs (lv F c p.block) g w (go c.packet) (piece p g w) e (d.1 c))
  go_on_made Yes scope go piece made growing p g w e part a kn sh = (nothing_made p g w a, λ c. ended_means F c base m occurs (lv F c p.block) g w (go c.packet) e)
  go_on_made (Maybe u) scope go piece made growing p g w e part a kn sh =
      let ru : Ready F p.block (length g.code) 1 u = subst (λ (x : Ending). Ready F p.block (length g.code) 1 (ended_id x)) e a.holds.ended in
      follow_made scope go piece made growing p u g w part a ru kn sh e

  shown_keeps : (w w' : View) → Keeps w w' → Shown occurs w → Shown occurs w'
  shown_keeps w w' k sh f e = k.fields (field_index f) (sh f e)

  abbrev after_each : Flattener → Flattener → Flattener
  after_each first rest q h u = let r = first q h u in rest q r.given r.view

  in_order_made : (scope scope' : List ℕ) (f go : Code) (first rest : Flattener) → IsMade scope f first → Growing first → Leads scope scope' first → IsCarried scope' go rest → Growing rest
      → IsCarried scope (λ packet s. then_do (f packet s) (go packet)) (in_order ws first rest)
  in_order_made scope scope' f go first rest mf gf leads mr gr p g w part a kn sh =
      go_on_made w.ended scope (λ packet s. then_do (f packet s) (go packet)) (after_each first rest) both_made both_grow p g w refl part a kn sh
    where
      both_grow : Growing (after_each first rest)
      both_grow p g w =
          let r = first p g w in
          then_grows g r.given (rest p r.given r.view).given (gf p g w) (gr p r.given r.view)

      both_made : IsMade scope (λ packet s. then_do (f packet s) (go packet)) (after_each first rest)
      both_made p g w part a kn sh =
          let r = first p g w in
          let r' = rest p r.given r.view in
          let s = mf p g w (then_grows r.given r'.given (whole F) (gr p r.given r.view) part) a kn sh in
          let t = mr p r.given r.view part (ahead_made p g w r (gf p g w) a s.0) (leads p g w kn s.0.keeps) (shown_keeps w r.view s.0.keeps sh) in (
            record { formed = t.0.formed; holds = t.0.holds; keeps = keeps_trans w r.view r'.view s.0.keeps t.0.keeps },
            λ c. both_means F c base m occurs (lv F c p.block) g w (f c.packet) (go c.packet) r r' (s.1 c) (t.1 c),
          )

  -- ## Statements

  bind_made : (p : Place) (g : Emitted) (w : View) (x width : ℕ) (r : Valued) → Grows g r.given → Ahead p g w → Formed F p.block width r → slice_index ws x ≡ width → Made p.block w (record { given = r.given; view = bound x r.id w })
  bind_made p g w x width r q a s e =
      let P = Ready F p.block (length r.given.code) in
      record {
        formed = s.formed;
        holds = holds_bound P w x r.id (subst (λ n. P n r.id) (sym e) s.ready) (holds_more p.block (length g.code) (length r.given.code) q.longer w a.holds);
        keeps = keeps_bound x r.id w;
      }

  set_made : (p : Place) (g : Emitted) (w : View) (f : Field) (r : Valued) → Grows g r.given → Ahead p g w → Formed F p.block (row f).width r → (row f).writable ≡ true → Made p.block w (record { given = r.given; view = assigned f r.id w })
  set_made p g w f r q a s may =
      let P = Ready F p.block (length r.given.code) in
      let h = holds_more p.block (length g.code) (length r.given.code) q.longer w a.holds in
      record {
        formed = s.formed;
        holds = record {
          locals = h.locals;
          fields = have_set P field_widths w.fields (field_index f) r.id h.fields (subst (λ n. P n r.id) (sym (field_width_at f)) s.ready);
          send = h.send;
          port = h.port;
          ended = h.ended;
        };
        keeps = record {
          locals = λ y there. there;
          fields = λ y there. there_set w.fields (field_index f) y r.id there;
          fixed = λ h no. get_or-set_other w.fields (field_index f) (field_index h) (Some r.id) None
              (λ same. true≢false (sym may ∙ ap (λ (k : Field). (row k).writable) (sym (same_index h f same)) ∙ no));
        };
      }

  -- results that fit the widths of locals
  abbrev AreResults : ℕ → ℕ → ℕ → ℕ → List ℕ → Type 0
  AreResults k n i j [] = Unit {0}
  AreResults k n i j (x ∷ xs) = Ready F k n (slice_index ws x) (result_of i j) × AreResults k n i (suc j) xs

  results_from : (k n i j : ℕ) (xs ls : List ℕ) → map (slice_index ws) xs ≡ ls → ((t : ℕ) → t < length ls → Ready F k n (slice_index ls t) (result_of i (t + j))) → AreResults k n i j xs
  results_from k n i j [] ls e each = tt
  results_from k n i j (x ∷ xs) [] e each = absurd (none_of (slice_index ws x) (map (slice_index ws) xs) e)
    where
      none_of : (y : ℕ) (ys : List ℕ) → y ∷ ys ≡ [] → ⊥
      none_of y ys e = cc
  results_from k n i j (x ∷ xs) (l ∷ ls) e each =
      let first : slice_index ws x ≡ l = cc in
      let rest : map (slice_index ws) xs ≡ ls = cc in
      let here : 0 + j ≡ j = omega arith in (
        subst (λ w. Ready F k n w (result_of i j)) (sym first) (subst (λ c. Ready F k n l (result_of i c)) here (each 0 (omega arith))),
        results_from k n i (suc j) xs ls rest
            (λ t lt.
            let next : suc t + j ≡ t + suc j = omega arith in
            subst (λ c. Ready F k n (slice_index ls t) (result_of i c)) next (each (suc t) (omega (arith, lt)))),
      )

  holds_bound_to : (k n i j : ℕ) (xs : List ℕ) (w : View) → AreResults k n i j xs → Holds (Ready F k n) w → Holds (Ready F k n) (bound_to i j xs w)
  holds_bound_to k n i j [] w rs h = h
  holds_bound_to k n i j (x ∷ xs) w rs h = holds_bound_to k n i (suc j) xs (bound x (result_of i j) w) rs.1 (holds_bound (Ready F k n) w x (result_of i j) rs.0 h)

  widths_here : (object : ℕ) (ls : List ℕ) → fits_values (slice_get m.objects object) ls ≡ true → ls ≡ value_widths F.objects object
  widths_here object ls good = as_declared (slice_get m.objects object) ls good ∙ ap (λ os. value_widths os object) (sym same_objects)

  keys_fit : (k n object : ℕ) (ls : List ℕ) (vs : List ValueId) → AreReady k n ls vs → fits_keys (slice_get m.objects object) ls ≡ true → fits_keys (slice_get F.objects object) (fitting.widths_of F vs) ≡ true
  keys_fit k n object ls vs h good =
      subst (λ os. fits_keys (slice_get os object) (fitting.widths_of F vs) ≡ true) (sym same_objects) (subst (λ l. fits_keys (slice_get m.objects object) l ≡ true) (sym (ready_widths k n ls vs h)) good)

  values_fit : (k n object : ℕ) (ls : List ℕ) (vs : List ValueId) → AreReady k n ls vs → fits_values (slice_get m.objects object) ls ≡ true → fits_values (slice_get F.objects object) (fitting.widths_of F vs) ≡ true
  values_fit k n object ls vs h good =
      subst (λ os. fits_values (slice_get os object) (fitting.widths_of F vs) ≡ true) (sym same_objects) (subst (λ l. fits_values (slice_get m.objects object) l ≡ true) (sym (ready_widths k n ls vs h)) good)

  look_made : (p : Place) (g : Emitted) (w : View) (found : ℕ) (into : List ℕ) (object : ℕ) (ls : List ℕ) (ks : Listed) → Grows g ks.given → IsPart F (emit p (flat.look object ks.ids) ks.given) → Ahead p g w → Forms p.block ls ks
      → fits_keys (slice_get m.objects object) ls ≡ true → fits_values (slice_get m.objects object) (map (slice_index ws) into) ≡ true → slice_index ws found ≡ 1
      → Made p.block w (record { given = emit p (flat.look object ks.ids) ks.given; view = bound_to (length ks.given.code) 0 (found ∷ into) w })
  look_made p g w found into object ls ks q part a s fits fits' one_bit =
      let k = p.block in
      let i = length ks.given.code in
      let work = flat.look object ks.ids in
      let e = emit p work ks.given in
      let n = length e.code in
      let b = ahead_later p g ks.given w q s.formed a in
      let q' = then_grows g ks.given e q (emit_grows p work ks.given) in
      let fit : WorkFits F k i work = record { before = all_before k i ls ks.ids s.ready; names = all_named k i ls ks.ids s.ready; sees = all_seen k i ls ks.ids s.ready; fit = keys_fit k i object ls ks.ids s.ready fits } in
      let results : (j : ℕ) → j < suc (length (value_widths F.objects object)) → Ready F k n (slice_index (1 ∷ value_widths F.objects object) j) (result_of i j) = given_ready F p work ks.given part in
      let first : Ready F k n (slice_index ws found) (result_of i 0) = subst (λ c. Ready F k n c (result_of i 0)) (sym one_bit) (results 0 (omega arith)) in
      let rest : AreResults k n i 1 into = results_from k n i 1 into (value_widths F.objects object) (widths_here object (map (slice_index ws) into) fits')
      (λ t lt.
      let next : suc t ≡ t + 1 = omega arith in
      subst (λ c. Ready F k n (slice_index (value_widths F.objects object) t) (result_of i c)) next (results (suc t) (omega (arith, lt)))) in
      record {
        formed = emit_formed F p work ks.given part s.formed b.opens fit;
        holds = holds_bound_to k n i 0 (found ∷ into) w (first, rest) (holds_more k (length g.code) n q'.longer w a.holds);
        keeps = keeps_bound_to i 0 (found ∷ into) w;
      }

  -- a write, whose one result comes to a local
  write_made : (p : Place) (g h : Emitted) (w : View) (x : ℕ) (work : Work) → Grows g h → IsPart F (emit p work h) → Ahead p g w → IsFormed F h → WorkFits F p.block (length h.code) work → HasOne 1 work → slice_index ws x ≡ 1
      → Made p.block w (record { given = emit p work h; view = bound x (result_of (length h.code) 0) w })
  write_made p g h w x work q part a formed fit only one_bit =
      bind_made p g w x 1 (give p work h) (then_grows g h (emit p work h) q (emit_grows p work h)) a
      (give_formed p work h w 1 part (ahead_later p g h w q formed a) fit only.some only.wide) one_bit

  put_fits : (k n object : ℕ) (ls ls' : List ℕ) (ks vs : List ValueId) → AreReady k n ls ks → AreReady k n ls' vs → can_put (slice_get m.objects object) ≡ true → fits_keys (slice_get m.objects object) ls ≡ true → fits_values (slice_get m.objects object) ls' ≡ true
      → WorkFits F k n (flat.put object ks vs)
  put_fits k n object ls ls' ks vs h h' can keys values =
      let d = slice_get F.objects object in
      record {
        before = each_append (λ (v : ValueId). v.instruction < n) ks vs (all_before k n ls ks h) (all_before k n ls' vs h');
        names = each_append (λ v. is_named F v ≡ true) ks vs (all_named k n ls ks h) (all_named k n ls' vs h');
        sees = (all_seen k n ls ks h, all_seen k n ls' vs h');
        fit = and_from (can_put d && fits_keys d (fitting.widths_of F ks)) (fits_values d (fitting.widths_of F vs))
            (and_from (can_put d) (fits_keys d (fitting.widths_of F ks)) (subst (λ os. can_put (slice_get os object) ≡ true) (sym same_objects) can) (keys_fit k n object ls ks h keys))
            (values_fit k n object ls' vs h' values);
      }

  del_fits : (k n object : ℕ) (ls : List ℕ) (ks : List ValueId) → AreReady k n ls ks → can_del (slice_get m.objects object) ≡ true → fits_keys (slice_get m.objects object) ls ≡ true → WorkFits F k n (flat.del object ks)
  del_fits k n object ls ks h can keys =
      let d = slice_get F.objects object in
      record {
        before = all_before k n ls ks h;
        names = all_named k n ls ks h;
        sees = all_seen k n ls ks h;
        fit = and_from (can_del d) (fits_keys d (fitting.widths_of F ks)) (subst (λ os. can_del (slice_get os object) ≡ true) (sym same_objects) can) (keys_fit k n object ls ks h keys);
      }

  -- a choice, from its condition and its sides
  choose_made : (p : Place) (g : Emitted) (w : View) (x : Valued) (fa fb : Code) (ra rb : At) → IsPart F (join ws p x.id ra.view rb).given → Grows g x.given → Grows x.given ra.given → Grows ra.given rb.given → Ahead p g w → Formed F p.block 1 x
      → Side p.block x.id true x.given w fa ra → Side p.block x.id false ra.given w fb rb → Made p.block w (join ws p x.id ra.view rb) × ((c : Run F) → JoinedRun F c base m occurs x.id rb.given ra.view rb.view (join ws p x.id ra.view rb))
  choose_made p g w x fa fb ra rb part gx ga gb a sx sa sb =
      let k = p.block in
      let n = length x.given.code in
      let na = length ra.given.code in
      let nb = length rb.given.code in
      let gxb = then_grows x.given ra.given rb.given ga gb in
      let gg = then_grows g x.given rb.given gx gxb in
      let first = holds_map (Sided F k na x.id true) (Sided F k nb x.id true) (sided_more F k na nb x.id true gb.longer) ra.view sa.holds in
      let d = join_formed p x.id ra.view rb part sb.formed (open_more F g rb.given k gg a.opens) (omega (arith, a.some, gg.longer)) (ready_more F k n nb gxb.longer 1 x.id sx.ready) first sb.holds in
      (record { formed = d.formed; holds = d.holds; keeps = d.keeps w sa.keeps sb.keeps }, d.means)

  second_made : (scope : List ℕ) (b : BodyTree) → IsCarried scope (λ packet. do_body ws packet b) (flat_body ws b) → (p : Place) (v : ValueId) (g : Emitted) (w : View) → IsPart F (second_side (is_empty b) p v (flat_body ws b) g w).given → Ahead p g w
      → Ready F p.block (length g.code) 1 v → Knows scope w.locals → Shown occurs w → Side p.block v false g w (λ packet. do_body ws packet b) (second_side (is_empty b) p v (flat_body ws b) g w)
  second_made scope BodyTree.done made p v g w part a rv kn sh = side_empty p v false g w a
  second_made scope (BodyTree.stmt t rest) made p v g w part a rv kn sh =
      let b = BodyTree.stmt t rest in
      side_made scope (λ packet. do_body ws packet b) (flat_body ws b) (as_made scope (λ packet. do_body ws packet b) (flat_body ws b) made) (body_grows ws b) p v false g w part a rv kn sh

  turn_made : (scope : List ℕ) (i x : ℕ) (go : Code) (piece : Flattener) → slice_index ws x ≡ 32 → i < 64 → IsCarried (x ∷ scope) go piece → Growing piece → IsMade scope (λ packet s. go packet (source.bound x i s)) (flat_turn i x piece)
  turn_made scope i x go piece wide small made growing p g w part a kn sh =
      let k = p.block in
      let work = flat.const 32 i in
      let n = give p work g in
      let w1 = bound x n.id w in
      let r = piece p n.given w1 in
      let size = length r.given.code in
      let gn = emit_grows p work g in
      let part_n = then_grows n.given r.given (whole F) (growing p n.given w1) part in
      let long : 64 ≤ 2 ^ 32 = lit≤ tt in
      let s = give_formed p work g w 32 part_n a (record { before = tt; names = tt; sees = tt; fit = lt-ltb i (2 ^ 32) (omega (arith, small, long)) }) (lit< tt) refl in
      let b = bind_made p g w x 32 n gn a s wide in
      let e = made p n.given w1 part (ahead_made p g w (record { given = n.given; view = w1 }) gn a b) (knows_bound scope x n.id w kn) (shown_keeps w w1 b.keeps sh) in
      let d = e.0 in
      let kept_all = keeps_trans w w1 r.view b.keeps d.keeps in
      let Q = Ready F k size in (
        record {
          formed = d.formed;
          holds = record {
            locals = have_scope (Ready F k (length g.code)) Q Q ws ws w.locals r.view.locals a.holds.locals d.holds.locals d.holds.locals;
            fields = d.holds.fields;
            send = d.holds.send;
            port = d.holds.port;
            ended = d.holds.ended;
          };
          keeps = record { locals = λ y h. there_scope w.locals r.view.locals y h (kept_all.locals y h); fields = kept_all.fields; fixed = kept_all.fixed };
        },
        λ c.
            turn_means F c base m occurs (Ready F k (length g.code)) Q (lv F c k) g n w x i (go c.packet) r (emit_still F c p work g part_n refl) (emit_reads F c p work g part_n 0) wide (omega (arith, small, long))
            a.holds.locals d.holds.locals (e.1 c),
      )

  turns_made : (scope : List ℕ) (x : ℕ) (go : Code) (piece : Flattener) → slice_index ws x ≡ 32 → IsCarried (x ∷ scope) go piece → Growing piece → (n i : ℕ) → i + n ≤ 64 → IsCarried scope (λ packet. turns n i x (go packet)) (flat_turns ws n i x piece)
  turns_made scope x go piece wide made growing zero i le = nothing_carried scope
  turns_made scope x go piece wide made growing (suc n) i le =
      in_order_made scope scope (λ packet s. go packet (source.bound x i s)) (λ packet. turns n (suc i) x (go packet)) (flat_turn i x piece) (flat_turns ws n (suc i) x piece)
      (turn_made scope i x go piece wide (omega (arith, le)) made growing) (turn_grows i x piece growing)
      (λ p g w kn k. knows_keeps scope w (flat_turn i x piece p g w).view k kn)
      (turns_made scope x go piece wide made growing n (suc i) (omega (arith, le))) (turns_grow ws n (suc i) x piece growing)

  finished_made : (p : Place) (g h : Emitted) (w : View) (out by : ValueId) → Grows g h → Ahead p g w → IsFormed F h → Ready F p.block (length h.code) 1 out → Ready F p.block (length h.code) 8 by
      → Made p.block w (record { given = h; view = finished out by w })
  finished_made p g h w out by q a formed ro rb =
      let b = ahead_later p g h w q formed a in
      let cs = constants_at p h w b in
      record {
        formed = formed;
        holds = record { locals = b.holds.locals; fields = b.holds.fields; send = ro; port = rb; ended = cs.one };
        keeps = record { locals = λ y there. there; fields = λ y there. there; fixed = λ f e. refl };
      }

  as_wide : (k width width' : ℕ) (r : Valued) → width ≡ width' → Formed F k width r → Formed F k width' r
  as_wide k width width' r e s = subst (λ n. Formed F k n r) e s

  -- the number of a good expression fits its width
  number_fits : (c : Run F) (scope : List ℕ) (e : ExprTree) (width : ℕ) → is_good_expr ws scope e ≡ true → width_of ws e ≡ width → (s : State) → Fits m s → value_of ws c.packet e s < 2 ^ width
  number_fits c scope e width good is s fit = subst (λ b. value_of ws c.packet e s < 2 ^ b) is (value_fits m c.packet scope s c.arrives fit e good)

  -- a local gets the value of an expression
  bound_made : (scope : List ℕ) (x : ℕ) (e : ExprTree) → Wide ws scope → is_good_expr ws scope e ≡ true → slice_index ws x ≡ width_of ws e → ((f : Field) → is_in_expr f e ≡ true → occurs f ≡ true)
      → IsMade scope (λ packet s. Running (source.bound x (value_of ws packet e s) s)) (λ p g w. let r = flat_expr ws p w e g in record { given = r.given; view = bound x r.id w })
  bound_made scope x e wide good is cov p g w part a kn sh =
      let r = flat_expr ws p w e g in
      let d = expr_formed scope p w e g good part wide kn (λ f h. sh f (cov f h)) a in (
        bind_made p g w x (width_of ws e) r (expr_grows ws p w e g) a d.0 is,
        λ c.
            bind_means F c base m occurs (lv F c p.block) g w x e r (d.1 c)
            (λ s fit. bound_fits m x (value_of ws c.packet e s) s fit (number_fits c scope e (slice_index ws x) good (sym is) s fit)),
      )

  mutual
    pub stmt_formed : (t : StmtTree) (scope : List ℕ) (next : ℕ) → is_good_stmt m scope next t ≡ true → Wide ws scope → ((f : Field) → is_in_stmt f t ≡ true → occurs f ≡ true) → IsMade scope (λ packet. do_stmt ws packet t) (flat_stmt ws t)
    stmt_formed (StmtTree.let_local x e) scope next good wide cov p g w part a kn sh =
        let two = and_first _ _ (and_first _ _ good) in
        bound_made scope x e wide (and_first _ _ two) (eqb-true (slice_index ws x) (width_of ws e) (and_second (is_good_expr ws scope e) _ two)) cov p g w part a kn sh
    stmt_formed (StmtTree.assign x e) scope next good wide cov p g w part a kn sh =
        bound_made scope x e wide (and_first _ _ (and_first _ _ good)) (eqb-true (slice_index ws x) (width_of ws e) (and_second _ _ good)) cov p g w part a kn sh
    stmt_formed (StmtTree.set_field f e) scope next good wide cov p g w part a kn sh =
        let r = flat_expr ws p w e g in
        let good_e = and_first _ _ (and_first _ _ good) in
        let is : width_of ws e ≡ (row f).width = eqb-true (width_of ws e) (row f).width (and_second _ _ good) in
        let d = expr_formed scope p w e g good_e part wide kn (λ h is. sh h (cov h (or_right (same_field h f) (is_in_expr h e) is))) a in (
          set_made p g w f r (expr_grows ws p w e g) a (as_wide p.block (width_of ws e) (row f).width r is d.0) (and_second (is_good_expr ws scope e) _ (and_first _ _ good)),
          λ c.
              set_field_means F c base m occurs (lv F c p.block) g w f e r (d.1 c) (cov f (or_left (same_field f f) (is_in_expr f e) (eq-eqb (field_index f) (field_index f) refl)))
              (number_fits c scope e (row f).width good_e is) (λ s fit. stmt_fits m c.packet scope next (StmtTree.set_field f e) s c.arrives fit good),
        )
    stmt_formed (StmtTree.look found into object keys) scope next good wide cov p g w part a kn sh =
        let four = and_first _ _ (and_first _ _ good) in
        let three = and_first _ _ four in
        let two = and_first _ _ three in
        let ks = flat_exprs ws p w keys g in
        let work = flat.look object ks.ids in
        let d = exprs_formed scope p w keys g (and_first _ _ two) (then_grows ks.given (emit p work ks.given) (whole F) (emit_grows p work ks.given) part) wide kn (λ f h. sh f (cov f h)) a in (
          look_made p g w found into object (widths_of ws keys) ks (exprs_grow ws p w keys g) part a d.0 (and_second (are_good_exprs ws scope keys) _ two) (and_second _ _ three) (eqb-true (slice_index ws found) 1 (and_second _ _ four)),
          λ c. look_means F c base m occurs p g w found into object keys ks part (d.1 c) (λ s fit. stmt_fits m c.packet scope next (StmtTree.look found into object keys) s c.arrives fit good),
        )
    stmt_formed (StmtTree.put ok object keys values) scope next good wide cov p g w part a kn sh =
        let six = and_first _ _ (and_first _ _ good) in
        let five = and_first _ _ six in
        let four = and_first _ _ five in
        let three = and_first _ _ four in
        let two = and_first _ _ three in
        let ks = flat_exprs ws p w keys g in
        let vs = flat_exprs ws p w values ks.given in
        let work = flat.put object ks.ids vs.ids in
        let gk = exprs_grow ws p w keys g in
        let gv = exprs_grow ws p w values ks.given in
        let part_v = then_grows vs.given (emit p work vs.given) (whole F) (emit_grows p work vs.given) part in
        let dk = exprs_formed scope p w keys g (and_first _ _ two) (then_grows ks.given vs.given (whole F) gv part_v) wide kn (λ f h. sh f (cov f (or_left (is_in_exprs f keys) (is_in_exprs f values) h))) a in
        let dv = exprs_formed scope p w values ks.given (and_second (are_good_exprs ws scope keys) _ two) part_v wide kn (λ f h. sh f (cov f (or_right (is_in_exprs f keys) (is_in_exprs f values) h))) (ahead_later p g ks.given w gk dk.0.formed a) in
        let n = length vs.given.code in
        let fit = put_fits p.block n object (widths_of ws keys) (widths_of ws values) ks.ids vs.ids (are_more p.block (length ks.given.code) n gv.longer (widths_of ws keys) ks.ids dk.0.ready) dv.0.ready
        (and_second _ _ three) (and_second _ _ four) (and_second _ _ five) in (
          write_made p g vs.given w ok work (then_grows g ks.given vs.given gk gv) part a dv.0.formed fit (record { some = lit< tt; wide = refl }) (eqb-true (slice_index ws ok) 1 (and_second _ _ six)),
          λ c.
              let K = values_of ws c.packet keys in
              let V = values_of ws c.packet values in
              write_means F c base m occurs p g vs.given w ok work (λ s. put_change s.store object (K s) (V s)) (λ s. bit (is_stored (put_answer (object_at s.store object) (K s)))) (λ s. with_object s.store object (put_row (object_at s.store object) (K s) (V s)))
              part ((dv.1 c).still ∙ (dk.1 c).still) refl
              (λ s b b'. ap (λ key. put_change s.store object key (map (val F c) vs.ids)) ((dk.1 c).reads s b b') ∙ ap (put_change s.store object (K s)) ((dv.1 c).reads s b b'))
              (λ s. put_tells s.store object (K s) (V s)) (λ s fit. stmt_fits m c.packet scope next (StmtTree.put ok object keys values) s c.arrives fit good),
        )
    stmt_formed (StmtTree.del was object keys) scope next good wide cov p g w part a kn sh =
        let four = and_first _ _ (and_first _ _ good) in
        let three = and_first _ _ four in
        let two = and_first _ _ three in
        let ks = flat_exprs ws p w keys g in
        let work = flat.del object ks.ids in
        let d = exprs_formed scope p w keys g (and_first _ _ two) (then_grows ks.given (emit p work ks.given) (whole F) (emit_grows p work ks.given) part) wide kn (λ f h. sh f (cov f h)) a in
        let fit = del_fits p.block (length ks.given.code) object (widths_of ws keys) ks.ids d.0.ready (and_second (are_good_exprs ws scope keys) _ two) (and_second _ _ three) in (
          write_made p g ks.given w was work (exprs_grow ws p w keys g) part a d.0.formed fit (record { some = lit< tt; wide = refl }) (eqb-true (slice_index ws was) 1 (and_second _ _ four)),
          λ c.
              let K = values_of ws c.packet keys in
              write_means F c base m occurs p g ks.given w was work (λ s. del_change s.store object (K s)) (λ s. bit (is_some (store.look (object_at s.store object) (K s)))) (λ s. with_object s.store object (del_row (object_at s.store object) (K s)))
              part (d.1 c).still refl (λ s b b'. ap (del_change s.store object) ((d.1 c).reads s b b'))
              (λ s. del_tells s.store object (K s)) (λ s fit. stmt_fits m c.packet scope next (StmtTree.del was object keys) s c.arrives fit good),
        )
    stmt_formed (StmtTree.choose c first second) scope next good wide cov p g w part a kn sh =
        let three = and_first _ _ good in
        let two = and_first _ _ three in
        let x = flat_expr ws p w c g in
        let v = x.id in
        let o = opened p v true x.given in
        let q = below p x.given in
        let ra = flat_body ws first q o w in
        let rb = second_side (is_empty second) p v (flat_body ws second) ra.given w in
        let j = join ws p v ra.view rb in
        let gx = expr_grows ws p w c g in
        let ga = then_grows x.given o ra.given (open_grows p v true x.given) (body_grows ws first q o w) in
        let gb = second_grows (is_empty second) p v (flat_body ws second) (body_grows ws second) ra.given w in
        let part_b : IsPart F rb.given = then_grows rb.given j.given (whole F) (join_grows ws p v ra.view rb) part in
        let part_a : IsPart F ra.given = then_grows ra.given rb.given (whole F) gb part_b in
        let part_x : IsPart F x.given = then_grows x.given ra.given (whole F) ga part_a in
        let wide_c : width_of ws c ≡ 1 = eqb-true (width_of ws c) 1 (and_second (is_good_expr ws scope c) _ two) in
        let d = expr_formed scope p w c g (and_first _ _ two) part_x wide kn (λ f h. sh f (cov f (or_left (is_in_expr f c || is_in_body f first) (is_in_body f second) (or_left (is_in_expr f c) (is_in_body f first) h)))) a in
        let sx = as_wide p.block (width_of ws c) 1 x wide_c d.0 in
        let ax = ahead_later p g x.given w gx sx.formed a in
        let fa : Code = λ packet. do_body ws packet first in
        let fb : Code = λ packet. do_body ws packet second in
        let sa = side_made scope fa (flat_body ws first)
        (as_made scope fa (flat_body ws first) (body_formed first scope next (and_second _ _ three) wide (λ f h. cov f (or_left (is_in_expr f c || is_in_body f first) (is_in_body f second) (or_right (is_in_expr f c) (is_in_body f first) h)))))
        (body_grows ws first) p v true x.given w part_a ax sx.ready kn sh in
        let sb = second_made scope second (body_formed second scope (next + declared_by first) (and_second _ _ good) wide (λ f h. cov f (or_right (is_in_expr f c || is_in_body f first) (is_in_body f second) h)))
        p v ra.given w part_b (ahead_later p x.given ra.given w ga sa.formed ax) (ready_more F p.block (length x.given.code) (length ra.given.code) ga.longer 1 v sx.ready) kn sh in
        let js = choose_made p g w x fa fb ra rb part gx ga gb a sx sa sb in
        (js.0, λ run. choose_means F run base m occurs p.block g w c x (fa run.packet) (fb run.packet) ra rb j (d.1 run) (number_fits run scope c 1 (and_first _ _ two) wide_c) (sa.means run) (sb.means run) (js.1 run))
    stmt_formed (StmtTree.repeat index count body) scope next good wide cov p g w part a kn sh =
        let four = and_first _ _ (and_first _ _ (and_first _ _ good)) in
        let times = and_first (is_count count) _ (and_first _ _ (and_first _ _ four)) in
        let few : count ≤ 64 = leb-true count 64 (and_second _ (nat_le count 64) times) in
        let is : slice_index ws index ≡ 32 = eqb-true (slice_index ws index) 32 (and_second _ _ four) in
        let a' : Ahead (looping p) g w = record { formed = a.formed; opens = a.opens; some = a.some; holds = a.holds } in
        let go : Code = λ packet. do_body ws packet body in
        as_made scope (λ packet. turns count 0 index (go packet)) (flat_turns ws count 0 index (flat_body ws body))
        (turns_made scope index go (flat_body ws body) is (body_formed body (index ∷ scope) (next + 1) (and_second _ _ good) (omega (arith, is), wide) cov) (body_grows ws body) count 0 (omega (arith, few)))
        (looping p) g w part a' kn sh
    stmt_formed (StmtTree.send e) scope next good wide cov p g w part a kn sh =
        let r = flat_expr ws p w e g in
        let q = expr_grows ws p w e g in
        let is : width_of ws e ≡ 8 = eqb-true (width_of ws e) 8 (and_second (is_good_expr ws scope e) _ good) in
        let d = expr_formed scope p w e g (and_first _ _ good) part wide kn (λ f h. sh f (cov f h)) a in
        let s = as_wide p.block (width_of ws e) 8 r is d.0 in (
          finished_made p g r.given w one r.id q a s.formed (constants_at p r.given w (ahead_later p g r.given w q s.formed a)).one s.ready,
          λ c. send_means F c base m occurs (lv F c p.block) g w e r (d.1 c) (number_fits c scope e 8 (and_first _ _ good) is),
        )
    stmt_formed StmtTree.drop scope next good wide cov p g w part a kn sh =
        let cs = constants_at p g w a in
        (finished_made p g g w nought nought_port (grows g) a a.formed cs.nought cs.port, λ c. drop_means F c base m occurs (lv F c p.block) g w)

    pub body_formed : (b : BodyTree) (scope : List ℕ) (next : ℕ) → is_good_body m scope next b ≡ true → Wide ws scope → ((f : Field) → is_in_body f b ≡ true → occurs f ≡ true) → IsCarried scope (λ packet. do_body ws packet b) (flat_body ws b)
    body_formed BodyTree.done scope next good wide cov = nothing_carried scope
    body_formed (BodyTree.stmt t b) scope next good wide cov =
        let first = and_first _ _ (and_first _ _ good) in
        in_order_made scope (binds t ++ scope) (λ packet. do_stmt ws packet t) (λ packet. do_body ws packet b) (flat_stmt ws t) (flat_body ws b)
        (stmt_formed t scope next first wide (λ f h. cov f (or_left (is_in_stmt f t) (is_in_body f b) h))) (stmt_grows ws t) (knows_after ws t scope)
        (body_formed b (binds t ++ scope) (next + declared_in t) (and_second _ _ good) (wide_both ws (binds t) scope (binds_wide m scope next t declared wide first) wide) (λ f h. cov f (or_right (is_in_stmt f t) (is_in_body f b) h)))
        (body_grows ws b)
