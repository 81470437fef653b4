-- The composed middlebox keeps the rules.
use Rattle.std.proofs.Common.{◌≡◌, ℕ, zero, suc, ◌+◌, ◌<◌, ◌≤◌, ◌^◌, true, false, List, [], ◌∷◌, ◌++◌, length, refl, sym, ap, ◌∙◌, subst, arith, slice_index, true≢false, Option, Some, None, inl, eq-eqb}
use Rattle.std.specs.List.{AllByRecursion, filter}
use Rattle.std.proofs.lemmas.Bool.{and_from, lt-ltb}
use Rattle.std.proofs.lemmas.List.{length_push, get_or_push, length-map}
use Rattle.packet_fields.specs.declared.field.Field.{Field}
use Rattle.packet_fields.specs.declared.field.Field.TheVariants.{MetaPort}
use Rattle.packet_fields.specs.Table.{row, all_fields}
use Rattle.gal_bits.specs.declared.op.Op.TheVariants.{Eq}
use Rattle.gal_bits.specs.Fitting.{fits_operator}
use Rattle.element_lang.specs.Tree.{ExprTree, BodyTree, Tree}
use Rattle.element_lang.specs.Tree.ExprTree.{lit, local, apply}
use Rattle.element_lang.specs.Tree.Exprs.{no_expr, expr}
use Rattle.element_lang.specs.Tree.StmtTree.{choose, send}
use Rattle.element_lang.specs.Tree.StmtTree.{drop as drop_all}
use Rattle.element_lang.specs.Widths.{local_widths, width_of}
use Rattle.element_lang.specs.Rules.{is_good, is_good_expr, is_good_stmt, is_good_body, are_good_objects, counted_from, are_fresh, declared_by, ends_always}
use Rattle.element_chain.specs.declared.chain.Wire.{Wire}
use Rattle.element_chain.specs.declared.chain.Target.{Target}
use Rattle.element_chain.specs.declared.chain.Target.TheVariants.{Element, Out}
use Rattle.element_chain.specs.Chain.{Connected, element_at}
use Rattle.element_chain.specs.Compose.{Placed, Spot, Sends, Written, one, tests, sent_by, wires_of, ends_within, element_placed, entry_within, composed, closed, clearing, cleared, is_set, base_of, prefixed, objects_from}
use Rattle.element_chain.specs.Laws.{IsSmall}
use Rattle.element_chain.proofs.Ranked.{IsRanked, FallsTo, IsCalm, passes}
use Rattle.element_chain.proofs.Numbers.{Extends, extends_self, extends_more}
use Rattle.element_chain.proofs.Sets.{set_only}
use Rattle.element_chain.proofs.Wired.{EachWire, each_mapped}
use Rattle.element_chain.proofs.Alike.{IsIn}
use Rattle.element_chain.proofs.Steps.{in_cases}
use Rattle.element_chain.proofs.Tests.{the_some, none_some}
use Rattle.element_chain.proofs.Names.{all_objects_good, object_there}
use Rattle.element_chain.proofs.GoodBodies.{closed_so, bound_after, good_one, good_followed, IsAround, body_ends_same}
use Rattle.element_chain.proofs.GoodStmts.{first_in, body_keeps}
use Rattle.element_chain.proofs.Whole.{falls_further, good_at, no_names, tests_grow, sent_grow, ends_grow, width_of_locals, length_of_locals}
use Rattle.element_chain.proofs.GoodWhole.{element_counts, ends_count, sent_count, ends_end, sent_end, clearing_declares, sends_quiet, IsKnown, known_wires, all_fresh}
use Rattle.lemmas.proofs.Lists.{each_all, each_filter}
use Rattle.lemmas.proofs.Tests.{and_first}

-- ## clearing
cleared_good : (m : Tree) (around : List ℕ) (k : ℕ) (f : Field) → (row f).writable ≡ true → is_good_stmt m around k (cleared f) ≡ true
cleared_good m around k MetaPort may = cc
cleared_good m around k _ may = cc

clearing_good : (m : Tree) (around : List ℕ) (k : ℕ) (fs : List Field) → AllByRecursion (λ (f : Field). (row f).writable ≡ true) fs → is_good_body m around k (clearing fs) ≡ true
clearing_good m around k [] may = refl
clearing_good m around k (f ∷ fs) may =
    let next : k + 0 ≡ k = omega arith in
    and_from _ _ (and_from _ _ (cleared_good m around k f may.0) refl) (subst (λ j. is_good_body m around j (clearing fs) ≡ true) (sym next) (clearing_good m around k fs may.1))

clearing_goes_on : (fs : List Field) → ends_always (clearing fs) ≡ false
clearing_goes_on [] = refl
clearing_goes_on (f ∷ []) = refl
clearing_goes_on (f ∷ g ∷ fs) = clearing_goes_on (g ∷ fs)

clearing_binds : (fs : List Field) (around : List ℕ) → bound_after (clearing fs) around ≡ around
clearing_binds [] around = refl
clearing_binds (f ∷ fs) around = clearing_binds fs around

-- ## a whole, and the ends of wires in it
eq_fits : (w : ℕ) → w ≡ 8 → fits_operator Eq 1 (w ∷ 8 ∷ []) ≡ true
eq_fits w is = subst (λ k. fits_operator Eq 1 (k ∷ 8 ∷ []) ≡ true) (sym is) refl

module _ (c : Connected) (fit : IsRanked c) (calm : IsCalm c) (small : IsSmall c) where
  few_widths : length (local_widths (composed c)) ≡ length (composed c).locals
  few_widths = length-map (composed c).locals (λ l. l.width)

  fresh_in : (scope xs : List ℕ) (next : ℕ) → counted_from next xs ≡ true → next + length xs ≤ length (local_widths (composed c)) → ((y : ℕ) → IsIn y scope → y < next) → are_fresh (composed c) scope xs ≡ true
  fresh_in scope xs next counted room low = all_fresh c (length c.elements) small.locals scope xs next counted (omega (arith, room, few_widths)) low

  -- what stands at the end of a wire keeps the rules
  abbrev GoodEnds : ℕ → Type 0
  GoodEnds n = (target : Target) (input : ℕ) (scope widths : List ℕ) → FallsTo c fit.rank (fit.rank 0) target → passes calm.reached target → input < 2 ^ 8 → ((y : ℕ) → IsIn y scope → y < length widths)
      → Extends (ends_within c n target input widths).widths (local_widths (composed c)) → is_good_body (composed c) scope (length widths) (ends_within c n target input widths).body ≡ true

  -- a wire of an element that is reached
  abbrev IsGoodWire : Wire → Type 0
  IsGoodWire w = FallsTo c fit.rank (fit.rank 0) w.to × passes calm.reached w.to × (w.input < 2 ^ 8) × (w.output < 256)

  good_wires : (e : ℕ) → fit.rank e ≤ fit.rank 0 → calm.reached e ≡ true → EachWire IsGoodWire (wires_of c.wires e)
  good_wires e low there = each_mapped (IsKnown c fit calm e) IsGoodWire
      (λ w is. (falls_further c fit.rank (fit.rank w.from) (fit.rank 0) w.to (subst (λ k. fit.rank k ≤ fit.rank 0) (sym is.1) low) is.0.0.to, is.0.1.on (ap calm.reached is.1 ∙ there), is.0.0.input, is.2))
      (wires_of c.wires e) (known_wires c fit calm e)

  tests_good : (n : ℕ) → GoodEnds n → (v : ℕ) (ws : List Wire) (scope widths : List ℕ) → EachWire IsGoodWire ws → IsIn v scope → slice_index (local_widths (composed c)) v ≡ 8 → ((y : ℕ) → IsIn y scope → y < length widths)
      → Extends (tests (ends_within c n) v ws widths).widths (local_widths (composed c)) → is_good_body (composed c) scope (length widths) (tests (ends_within c n) v ws widths).body ≡ true
  tests_good n good v [] scope widths each there wide low grown = refl
  tests_good n good v (w ∷ ws) scope widths each there wide low grown =
      let first : Written = ends_within c n w.to w.input widths in
      let rest : Written = tests (ends_within c n) v ws first.widths in
      let count : length widths + declared_by first.body ≡ length first.widths = ends_count c n w.to w.input widths in
      let first_grown : Extends widths first.widths = ends_grow c fit n w.to w.input widths in
      let rest_grown : Extends first.widths rest.widths = tests_grow (ends_within c n) (ends_grow c fit n) v ws first.widths in
      let one_part = good w.to w.input scope widths each.0.0 each.0.1 each.0.2 low (extends_more first.widths rest.widths (local_widths (composed c)) rest_grown grown) in
      let two_part = tests_good n good v ws scope first.widths each.1 there wide (λ y is. omega (arith, low y is, first_grown.longer)) grown in
      let tested : is_good_expr (local_widths (composed c)) scope (apply Eq 1 (expr (local v) (expr (lit w.output 8) no_expr))) ≡ true
      = and_from _ _ (and_from _ _ there (and_from _ _ (and_from _ _ refl (lt-ltb w.output (2 ^ 8) each.0.3)) refl)) (eq_fits (slice_index (local_widths (composed c)) v) wide) in
      good_one (composed c) scope (length widths) (choose (apply Eq 1 (expr (local v) (expr (lit w.output 8) no_expr))) first.body rest.body)
      (and_from _ _ (and_from _ _ (and_from _ _ tested refl) one_part)
      (subst (λ k. is_good_body (composed c) scope k rest.body ≡ true) (sym count) two_part))

  sent_good : (n : ℕ) → GoodEnds n → (ws : List Wire) → EachWire IsGoodWire ws → (scope : List ℕ) (p : ExprTree) (widths : List ℕ) → is_good_expr (local_widths (composed c)) scope p ≡ true → width_of (local_widths (composed c)) p ≡ 8
      → ((y : ℕ) → IsIn y scope → y < length widths) → Extends (sent_by (ends_within c n) ws p widths).widths (local_widths (composed c))
      → is_good_body (composed c) scope (length widths) (sent_by (ends_within c n) ws p widths).body ≡ true
  sent_good n good [] each scope p widths good_port wide low grown = refl
  sent_good n good (w ∷ ws) each scope p widths good_port wide low grown =
      let v : ℕ = length widths in
      let more : List ℕ = widths ++ 8 ∷ [] in
      let tested : Written = tests (ends_within c n) v (w ∷ ws) more in
      let longer : length more ≡ length widths + 1 = length_push widths 8 in
      let tested_grown : Extends more tested.widths = tests_grow (ends_within c n) (ends_grow c fit n) v (w ∷ ws) more in
      let grown_more = extends_more more tested.widths (local_widths (composed c)) tested_grown grown in
      let eight : slice_index (local_widths (composed c)) v ≡ 8 = grown_more.same v (omega (arith, longer)) ∙ get_or_push widths 8 0 v refl in
      let counted : counted_from v (v ∷ []) ≡ true = and_from _ _ (eq-eqb v v refl) refl in
      let fresh : are_fresh (composed c) scope (v ∷ []) ≡ true = fresh_in scope (v ∷ []) v counted (omega (arith, longer, grown_more.longer)) low in
      let below = λ (y : ℕ) (there : IsIn y (v ∷ scope)).
      in_cases (y < length more) y v scope there (λ same. omega (arith, same, longer)) (λ other old. omega (arith, low y old, longer)) in
      let rest = tests_good n good v (w ∷ ws) (v ∷ scope) more each (first_in v scope) eight below grown in
      and_from _ _ (and_from _ _ (and_from _ _ (and_from _ _ (and_from _ _ good_port
      (eq-eqb (slice_index (local_widths (composed c)) v) (width_of (local_widths (composed c)) p) (eight ∙ sym wide))) counted) fresh) refl)
      (subst (λ k. is_good_body (composed c) (v ∷ scope) k tested.body ≡ true) longer rest)

  around_at : (n : ℕ) → GoodEnds n → (e : ℕ) → e < length c.elements → fit.rank e ≤ fit.rank 0 → calm.reached e ≡ true → (port : Option ℕ) → ((j : ℕ) → port ≡ Some j → j < 2 ^ 8)
      → IsAround (composed c) (element_at c.elements e) (base_of c.elements e) port (sent_by (ends_within c n) (wires_of c.wires e))
  around_at n good e lt low there port small_port = record {
    objects = λ o d is. (record d { name = prefixed (0 + e) d.name }, object_there c.elements 0 e o d is, refl, refl, refl);
    small = small_port;
    fresh = fresh_in;
    grow = sent_grow (ends_within c n) (ends_grow c fit n) (wires_of c.wires e);
    sends = sent_good n good (wires_of c.wires e) (good_wires e low there);
    counts = sent_count (ends_within c n) (ends_count c n) (wires_of c.wires e);
    ends = sent_end (ends_within c n) (ends_end c n) (wires_of c.wires e);
  }

  placed_good : (n : ℕ) → GoodEnds n → (e : ℕ) → e < length c.elements → fit.rank e ≤ fit.rank 0 → calm.reached e ≡ true → (port : Option ℕ) → ((j : ℕ) → port ≡ Some j → j < 2 ^ 8) → (scope widths : List ℕ)
      → ((y : ℕ) → IsIn y scope → y < length widths) → Extends (element_placed c (ends_within c n) port e widths).numbering.widths (local_widths (composed c))
      → is_good_body (composed c) scope (length widths) (element_placed c (ends_within c n) port e widths).body ≡ true
  placed_good n good e lt low there port small_port scope widths below grown =
      let m : Tree = element_at c.elements e in
      body_keeps (composed c) m (base_of c.elements e) port (sent_by (ends_within c n) (wires_of c.wires e)) (around_at n good e lt low there port small_port)
      [] scope 0 m.body (record { names = []; widths = widths }) refl (good_at c fit e) (no_names (local_widths m) widths)
      (λ y is. absurd (true≢false (sym is))) (λ x is. absurd (true≢false (sym is))) below grown (λ again. sends_quiet c fit calm n e there again)

  closed_good : (own b : BodyTree) (scope : List ℕ) (k : ℕ) → ends_always b ≡ ends_always own → is_good_body (composed c) scope k b ≡ true → is_good_body (composed c) scope k (closed own b) ≡ true
  closed_good own b scope k same good =
      closed_so (λ x. is_good_body (composed c) scope k x ≡ true) own b (λ h. good) (λ h. good_followed (composed c) b (one drop_all) scope k good (inl (same ∙ h)) refl)

  ends_good : (n : ℕ) → GoodEnds n
  ends_good n Out input scope widths falls there low below grown =
      good_one (composed c) scope (length widths) (send (lit input 8)) (and_from _ _ (and_from _ _ refl (lt-ltb input (2 ^ 8) low)) refl)
  ends_good zero (Element e) input scope widths falls there low below grown = refl
  ends_good (suc n) (Element e) input scope widths falls there low below grown =
      let m : Tree = element_at c.elements e in
      let spot : Spot = record { widths = local_widths m; base = base_of c.elements e; port = Some input } in
      let sent : Sends = sent_by (ends_within c n) (wires_of c.wires e) in
      let own : Placed = element_placed c (ends_within c n) (Some input) e widths in
      let fs : List Field = filter (is_set c.elements) all_fields in
      let only : (f : Field) → is_set c.elements f ≡ true → (row f).writable ≡ true = (λ f h. set_only c.elements f (λ k lt. good_at c fit k) h) in
      let placed = placed_good n (ends_good n) e falls.0 (omega (arith, falls.1)) there (Some input) (λ j same. subst (λ k. k < 2 ^ 8) (the_some input j same) low) scope widths below grown in
      let closes : is_good_body (composed c) scope (length widths) (closed m.body own.body) ≡ true
      = closed_good m.body own.body scope (length widths) (body_ends_same spot sent (sent_end (ends_within c n) (ends_end c n) (wires_of c.wires e)) m.body (record { names = []; widths = widths })) placed in
      let next : length widths + declared_by (clearing fs) ≡ length widths = omega (arith, clearing_declares fs) in
      good_followed (composed c) (clearing fs) (closed m.body own.body) scope (length widths) (clearing_good (composed c) scope (length widths) fs (each_filter (λ (f : Field). (row f).writable ≡ true) (is_set c.elements) all_fields (each_all (λ (f : Field). is_set c.elements f ≡ true → (row f).writable ≡ true) only all_fields)))
      (inl (clearing_goes_on fs))
      (subst (λ k. is_good_body (composed c) (bound_after (clearing fs) scope) k (closed m.body own.body) ≡ true) (sym next)
      (subst (λ around. is_good_body (composed c) around (length widths) (closed m.body own.body) ≡ true) (sym (clearing_binds fs scope)) closes))

  pub whole_good : is_good (composed c) ≡ true
  whole_good =
      let n : ℕ = length c.elements in
      let entry : Placed = entry_within c n in
      let widths_are : local_widths (composed c) ≡ entry.numbering.widths = width_of_locals 0 entry.numbering.widths in
      let placed = placed_good n (ends_good n) 0 fit.some (omega arith) calm.entry None (λ j same. absurd (none_some j same)) [] [] (λ y is. absurd (true≢false (sym is)))
      (subst (Extends entry.numbering.widths) (sym widths_are) (extends_self entry.numbering.widths)) in
      let objects : are_good_objects [] (objects_from 0 c.elements) ≡ true = all_objects_good c.elements small.elements (λ e lt. and_first _ _ (and_first _ _ (fit.good e lt))) in
      let count : declared_by entry.body ≡ length (composed c).locals =
      omega (arith, element_counts c n (ends_count c n) None 0 [], length_of_locals 0 entry.numbering.widths) in
      and_from _ _ (and_from _ _ objects (eq-eqb (declared_by entry.body) (length (composed c).locals) count)) placed
