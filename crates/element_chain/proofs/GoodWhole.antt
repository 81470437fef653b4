-- The whole keeps the rules.
use Rattle.std.proofs.Common.{◌≡◌, ℕ, zero, suc, ◌+◌, ◌<◌, ◌≤◌, ◌^◌, ◌==◌, ◌||◌, not, true, false, cond, List, [], ◌∷◌, ◌++◌, length, map, refl, sym, ap, ◌∙◌, arith, Option, Some, codes}
use Rattle.std.specs.Fmt.{decimal}
use Rattle.std.specs.List.{list_any, filter, All}
use Rattle.std.specs.Str.{bytes_eq}
use Rattle.std.proofs.lemmas.Bool.{eqb-true, and_from, false_from_ne_true, or_from}
use Rattle.std.proofs.lemmas.List.{length_push}
use Rattle.packet_fields.specs.declared.field.Field.{Field}
use Rattle.packet_fields.specs.Table.{all_fields}
use Rattle.state_store.specs.declared.object.ObjectDecl.{ObjectDecl}
use Rattle.element_lang.specs.Tree.{ExprTree, BodyTree, Tree}
use Rattle.element_lang.specs.Tree.StmtTree.{drop as drop_all}
use Rattle.element_lang.specs.Widths.{local_widths}
use Rattle.element_lang.specs.Surface.{local_name, name_of_local}
use Rattle.element_lang.specs.Rules.{object_names, counted_from, are_fresh, declared_by, ends_always, any_repeats}
use Rattle.element_chain.specs.declared.chain.Wire.{Wire}
use Rattle.element_chain.specs.declared.chain.Target.{Target}
use Rattle.element_chain.specs.declared.chain.Target.TheVariants.{Element, Out}
use Rattle.element_chain.specs.Chain.{Connected, element_at}
use Rattle.element_chain.specs.Compose.{Placed, Spot, Ends, one, tests, sent_by, wires_of, ends_within, element_placed, entry_within, whole_within, closed, clearing, is_set, base_of, named_objects, objects_from}
use Rattle.element_chain.specs.Laws.{any_sends_again}
use Rattle.element_chain.proofs.Ranked.{IsRanked, IsWireOf, IsCalm, IsPassedOn, passes}
use Rattle.element_chain.proofs.Wired.{EachWire, each_low, each_mapped}
use Rattle.element_chain.proofs.Alike.{IsIn}
use Rattle.element_chain.proofs.Names.{same_local, local_there}
use Rattle.element_chain.proofs.Steps.{in_cases}
use Rattle.element_chain.proofs.GoodBodies.{closed_so, declared_followed, quiet_followed, ends_full, ends_followed, quiet_body, body_ends_same}
use Rattle.element_chain.proofs.GoodStmts.{first_in, later_in, body_counts}
use Rattle.element_chain.proofs.Whole.{length_of_locals}
use Rattle.lemmas.proofs.Tests.{and_first, and_second}

-- ## how many locals are declared
pub clearing_declares : (fs : List Field) → declared_by (clearing fs) ≡ 0
clearing_declares [] = refl
clearing_declares (f ∷ fs) = omega (arith, clearing_declares fs)

closed_declares : (own b : BodyTree) → declared_by (closed own b) ≡ declared_by b
closed_declares own b = closed_so (λ x. declared_by x ≡ declared_by b) own b (λ h. refl) (λ h. omega (arith, declared_followed b (one drop_all)))

abbrev pub CountEnds : Ends → Type 0
CountEnds end = (target : Target) (input : ℕ) (widths : List ℕ) → length widths + declared_by (end target input widths).body ≡ length (end target input widths).widths

pub tests_count : (end : Ends) → CountEnds end → (v : ℕ) (ws : List Wire) (widths : List ℕ) → length widths + declared_by (tests end v ws widths).body ≡ length (tests end v ws widths).widths
tests_count end counts v [] widths = omega arith
tests_count end counts v (w ∷ ws) widths = omega (arith, counts w.to w.input widths, tests_count end counts v ws (end w.to w.input widths).widths)

pub sent_count : (end : Ends) → CountEnds end → (ws : List Wire) (p : ExprTree) (widths : List ℕ) → length widths + declared_by (sent_by end ws p widths).body ≡ length (sent_by end ws p widths).widths
sent_count end counts [] p widths = omega arith
sent_count end counts (w ∷ ws) p widths = omega (arith, length_push widths 8, tests_count end counts (length widths) (w ∷ ws) (widths ++ 8 ∷ []))

pub element_counts : (c : Connected) (n : ℕ) → CountEnds (ends_within c n) → (port : Option ℕ) (e : ℕ) (widths : List ℕ)
    → length widths + declared_by (element_placed c (ends_within c n) port e widths).body
    ≡ length (element_placed c (ends_within c n) port e widths).numbering.widths
element_counts c n counts port e widths =
    let m : Tree = element_at c.elements e in
    let spot : Spot = record { widths = local_widths m; base = base_of c.elements e; port = port } in
    body_counts spot (sent_by (ends_within c n) (wires_of c.wires e)) (sent_count (ends_within c n) counts (wires_of c.wires e)) m.body
    (record { names = []; widths = widths })

pub ends_count : (c : Connected) (n : ℕ) → CountEnds (ends_within c n)
ends_count c n Out input widths = omega arith
ends_count c zero (Element e) input widths = omega arith
ends_count c (suc n) (Element e) input widths =
    let m : Tree = element_at c.elements e in
    let own : Placed = element_placed c (ends_within c n) (Some input) e widths in
    let fs : List Field = filter (is_set c.elements) all_fields in
    omega (
      arith,
      declared_followed (clearing fs) (closed m.body own.body),
      clearing_declares fs,
      closed_declares m.body own.body,
      element_counts c n (ends_count c n) (Some input) e widths,
    )

-- ## what always ends
abbrev pub EndEnds : Ends → Type 0
EndEnds end = (target : Target) (input : ℕ) (widths : List ℕ) → ends_always (end target input widths).body ≡ true

tests_end : (end : Ends) → EndEnds end → (v : ℕ) (ws : List Wire) (widths : List ℕ) → ends_always (tests end v ws widths).body ≡ true
tests_end end ends v [] widths = refl
tests_end end ends v (w ∷ ws) widths = and_from _ _ (ends w.to w.input widths) (tests_end end ends v ws (end w.to w.input widths).widths)

pub sent_end : (end : Ends) → EndEnds end → (ws : List Wire) (p : ExprTree) (widths : List ℕ) → ends_always (sent_by end ws p widths).body ≡ true
sent_end end ends [] p widths = refl
sent_end end ends (w ∷ ws) p widths = tests_end end ends (length widths) (w ∷ ws) (widths ++ 8 ∷ [])

closed_end : (own b : BodyTree) → ends_always b ≡ ends_always own → ends_always (closed own b) ≡ true
closed_end own b same = closed_so (λ x. ends_always x ≡ true) own b (λ h. same ∙ h) (λ h. ends_followed b (one drop_all) refl)

pub ends_end : (c : Connected) (n : ℕ) → EndEnds (ends_within c n)
ends_end c n Out input widths = refl
ends_end c zero (Element e) input widths = refl
ends_end c (suc n) (Element e) input widths =
    let m : Tree = element_at c.elements e in
    let spot : Spot = record { widths = local_widths m; base = base_of c.elements e; port = Some input } in
    let own : Placed = element_placed c (ends_within c n) (Some input) e widths in
    let closes : ends_always (closed m.body own.body) ≡ true
    = closed_end m.body own.body (body_ends_same spot (sent_by (ends_within c n) (wires_of c.wires e)) (sent_end (ends_within c n) (ends_end c n) (wires_of c.wires e)) m.body (record { names = []; widths = widths })) in
    ends_followed (clearing (filter (is_set c.elements) all_fields)) (closed m.body own.body) (ends_full (closed m.body own.body) closes) ∙ closes

-- ## what does not repeat
clearing_quiet : (fs : List Field) → any_repeats (clearing fs) ≡ false
clearing_quiet [] = refl
clearing_quiet (f ∷ fs) = clearing_quiet fs

closed_quiet : (own b : BodyTree) → any_repeats b ≡ false → any_repeats (closed own b) ≡ false
closed_quiet own b h = closed_so (λ x. any_repeats x ≡ false) own b (λ e. h) (λ e. quiet_followed b (one drop_all) h refl)

abbrev QuietEnds : (Target → Type 0) → Ends → Type 0
QuietEnds may end = (target : Target) (input : ℕ) (widths : List ℕ) → may target → any_repeats (end target input widths).body ≡ false

tests_quiet : (may : Target → Type 0) (end : Ends) → QuietEnds may end → (v : ℕ) (ws : List Wire) (widths : List ℕ) → EachWire (λ (w : Wire). may w.to) ws → any_repeats (tests end v ws widths).body ≡ false
tests_quiet may end quiet v [] widths each = refl
tests_quiet may end quiet v (w ∷ ws) widths each =
    or_from _ false (or_from _ _ (quiet w.to w.input widths each.0) (tests_quiet may end quiet v ws (end w.to w.input widths).widths each.1)) refl

sent_quiet : (may : Target → Type 0) (end : Ends) → QuietEnds may end → (ws : List Wire) (p : ExprTree) (widths : List ℕ) → EachWire (λ (w : Wire). may w.to) ws → any_repeats (sent_by end ws p widths).body ≡ false
sent_quiet may end quiet [] p widths each = refl
sent_quiet may end quiet (w ∷ ws) p widths each = tests_quiet may end quiet (length widths) (w ∷ ws) (widths ++ 8 ∷ []) each

-- a wire of an element, with all that is known of it
abbrev pub IsKnown : (c : Connected) → IsRanked c → IsCalm c → ℕ → Wire → Type 0
IsKnown c fit calm e w = (IsWireOf c fit.rank w × IsPassedOn c calm.reached calm.repeated w) × (w.from ≡ e) × (w.output < 256)

both_all : (c : Connected) (fit : IsRanked c) (calm : IsCalm c) → All (λ (w : Wire). IsWireOf c fit.rank w × IsPassedOn c calm.reached calm.repeated w) c.wires
both_all c fit calm = λ k d lt. (fit.wires k d lt, calm.wires k d lt)

pub known_wires : (c : Connected) (fit : IsRanked c) (calm : IsCalm c) (e : ℕ) → EachWire (IsKnown c fit calm e) (wires_of c.wires e)
unfolding wires_of
known_wires c fit calm e = each_low (λ (w : Wire). IsWireOf c fit.rank w × IsPassedOn c calm.reached calm.repeated w) c.wires e 256 0 (omega arith) (both_all c fit calm)

abbrev MayBeWithin : (c : Connected) → IsCalm c → Target → Type 0
MayBeWithin c calm target = passes calm.reached target × passes calm.repeated target

ends_quiet : (c : Connected) (fit : IsRanked c) (calm : IsCalm c) (n : ℕ) → QuietEnds (MayBeWithin c calm) (ends_within c n)
ends_quiet c fit calm n Out input widths may = refl
ends_quiet c fit calm zero (Element e) input widths may = refl
ends_quiet c fit calm (suc n) (Element e) input widths may =
    let m : Tree = element_at c.elements e in
    let spot : Spot = record { widths = local_widths m; base = base_of c.elements e; port = Some input } in
    let own : Placed = element_placed c (ends_within c n) (Some input) e widths in
    let fs : List Field = filter (is_set c.elements) all_fields in
    let behind : EachWire (λ (w : Wire). MayBeWithin c calm w.to) (wires_of c.wires e)
    = each_mapped (IsKnown c fit calm e) (λ (w : Wire). MayBeWithin c calm w.to)
    (λ w is. (is.0.1.on (ap calm.reached is.1 ∙ may.0), is.0.1.behind (ap calm.reached is.1 ∙ may.0) (ap calm.repeated is.1 ∙ may.1))) (wires_of c.wires e) (known_wires c fit calm e) in
    quiet_followed (clearing fs) (closed m.body own.body) (clearing_quiet fs)
    (closed_quiet m.body own.body
    (quiet_body spot (sent_by (ends_within c n) (wires_of c.wires e)) m.body (record { names = []; widths = widths })
    (λ h p more. sent_quiet (MayBeWithin c calm) (ends_within c n) (ends_quiet c fit calm n) (wires_of c.wires e) p more behind) (calm.none e may.0 may.1)))

-- what an element sends to within a `repeat`
pub sends_quiet : (c : Connected) (fit : IsRanked c) (calm : IsCalm c) (n e : ℕ) → calm.reached e ≡ true → any_sends_again (element_at c.elements e).body ≡ true → (p : ExprTree) (widths : List ℕ)
    → any_repeats (sent_by (ends_within c n) (wires_of c.wires e) p widths).body ≡ false
sends_quiet c fit calm n e there again p widths =
    sent_quiet (MayBeWithin c calm) (ends_within c n) (ends_quiet c fit calm n) (wires_of c.wires e) p widths
    (each_mapped (IsKnown c fit calm e) (λ (w : Wire). MayBeWithin c calm w.to)
    (λ w is. let reached : calm.reached w.from ≡ true = ap calm.reached is.1 ∙ there in
    (is.0.1.on reached, is.0.1.again reached (ap (λ k. any_sends_again (element_at c.elements k).body) is.1 ∙ again))) (wires_of c.wires e) (known_wires c fit calm e))

-- ## names
no_object : (ds : List ℕ) (os rest : List ObjectDecl) (e : ℕ) → list_any (bytes_eq (codes "v" ++ ds)) (map (λ o. o.name) rest) ≡ false → list_any (bytes_eq (codes "v" ++ ds)) (map (λ o. o.name) (named_objects e os ++ rest)) ≡ false
no_object ds [] rest e h = h
no_object ds (o ∷ os) rest e h = no_object ds os rest e h

no_objects : (ds : List ℕ) (e : ℕ) (ms : List Tree) → list_any (bytes_eq (codes "v" ++ ds)) (map (λ o. o.name) (objects_from e ms)) ≡ false
no_objects ds e [] = refl
no_objects ds e (m ∷ ms) = no_object ds m.objects (objects_from (suc e) ms) e (no_objects ds (suc e) ms)

module _ (c : Connected) (n : ℕ) (few : length (whole_within c n).locals < 2 ^ 64) where
  name_is : (x : ℕ) → x < length (whole_within c n).locals → local_name (whole_within c n) x ≡ codes "v" ++ decimal x
  name_is x lt =
      let at = local_there 0 x (entry_within c n).numbering.widths (omega (arith, lt, length_of_locals 0 (entry_within c n).numbering.widths)) in
      ap name_of_local at.1 ∙ ap (λ k. codes "v" ++ decimal k) (omega arith)

  others_apart : (x : ℕ) (scope : List ℕ) → x < length (whole_within c n).locals → ((y : ℕ) → IsIn y scope → y < x) → list_any (λ y. bytes_eq (local_name (whole_within c n) x) (local_name (whole_within c n) y)) scope ≡ false
  others_apart x [] lt below = refl
  others_apart x (y ∷ scope) lt below =
      let low : y < x = below y (first_in y scope) in
      let apart : bytes_eq (local_name (whole_within c n) x) (local_name (whole_within c n) y) ≡ false
      = false_from_ne_true (bytes_eq (local_name (whole_within c n) x) (local_name (whole_within c n) y))
      (λ h. let same : x ≡ y = same_local x y (omega (arith, lt, few)) (omega (arith, lt, few, low))
      (sym (ap (λ a. bytes_eq a (local_name (whole_within c n) y)) (name_is x lt) ∙ ap (bytes_eq (codes "v" ++ decimal x)) (name_is y (omega (arith, lt, low)))) ∙ h) in absurd (omega (arith, same, low))) in
      ap (λ b. b || list_any (λ y. bytes_eq (local_name (whole_within c n) x) (local_name (whole_within c n) y)) scope) apart
      ∙ others_apart x scope lt (λ z there. below z (later_in z y scope there))

  pub all_fresh : (scope xs : List ℕ) (next : ℕ) → counted_from next xs ≡ true → next + length xs ≤ length (whole_within c n).locals → ((y : ℕ) → IsIn y scope → y < next) → are_fresh (whole_within c n) scope xs ≡ true
  all_fresh scope [] next counted room below = refl
  all_fresh scope (x ∷ xs) next counted room below =
      let here : x ≡ next = eqb-true x next (and_first _ _ counted) in
      let lt : x < length (whole_within c n).locals = omega (arith, here, room) in
      let object : list_any (bytes_eq (local_name (whole_within c n) x)) (object_names (whole_within c n)) ≡ false
      = ap (λ a. list_any (bytes_eq a) (object_names (whole_within c n))) (name_is x lt) ∙ no_objects (decimal x) 0 c.elements in
      and_from _ _ (and_from _ _ (ap not object) (ap not (others_apart x scope lt (λ y there. omega (arith, below y there, here)))))
      (all_fresh (x ∷ scope) xs (next + 1) (and_second (x == next) _ counted) (omega (arith, room))
      (λ y there. in_cases (y < next + 1) y x scope there (λ same. omega (arith, same, here)) (λ other old. omega (arith, below y old))))
