-- The whole does what the chain does.
use Rattle.std.proofs.Common.{◌≡◌, ◌≢◌, ℕ, zero, suc, ◌+◌, ◌<◌, ◌≤◌, ◌%◌, ◌^◌, ◌==◌, ◌&&◌, Bool, true, false, cond, List, [], ◌∷◌, ◌++◌, length, map, take, drop, get_or, refl, sym, ap, ◌∙◌, subst, arith, slice_index, slice_set, true≢false, Option, Some, None, mod-eq_of_lt, inr, ⊎_elim}
use Rattle.std.specs.List.{list_any, filter}
use Rattle.std.proofs.lemmas.Bool.{cases_eq, cond_both, eqb-true, cases_lt}
use Rattle.std.proofs.lemmas.Grind.{get_or-set_at}
use Rattle.std.proofs.lemmas.List.{length-set, get_or-set_same, get_or-set_other, get_or_past, get_or-map, length-map, length-replicate, length_push}
use Rattle.gal_bits.specs.declared.op.Op.TheVariants.{Eq}
use Rattle.gal_bits.specs.Operators.{value_of as operator_value}
use Rattle.packet_fields.specs.Arrivals.{IsArrival}
use Rattle.packet_fields.specs.declared.field.Field.{Field}
use Rattle.packet_fields.specs.declared.field.Field.TheVariants.{MetaPort}
use Rattle.packet_fields.specs.declared.packet.Packet.{Packet}
use Rattle.packet_fields.specs.declared.verdict.Verdict.{Verdict}
use Rattle.packet_fields.specs.declared.verdict.Verdict.TheVariants.{Drop, Send}
use Rattle.packet_fields.specs.Fields.{field_value}
use Rattle.packet_fields.specs.Shape.{shape_of}
use Rattle.packet_fields.specs.Table.{row, all_fields, field_index}
use Rattle.state_store.specs.Kept.{IsKept}
use Rattle.state_store.specs.Store.{Store}
use Rattle.element_lang.specs.Tree.{ExprTree, StmtTree, BodyTree, Tree}
use Rattle.element_lang.specs.Tree.ExprTree.{lit, local, apply}
use Rattle.element_lang.specs.Tree.Exprs.{no_expr, expr}
use Rattle.element_lang.specs.Tree.StmtTree.{choose, send}
use Rattle.element_lang.specs.Tree.StmtTree.{drop as drop_all}
use Rattle.element_lang.specs.Tree.BodyTree.{done, stmt}
use Rattle.element_lang.specs.Widths.{local_widths}
use Rattle.element_lang.specs.Rules.{is_good_body, declared_by, ends_always, always_ends}
use Rattle.element_lang.specs.Meaning.{State, Outcome, Running, Ended, then_do, value_of, bound, with_fields, do_stmt, do_body, start_state, store_after, verdict_after, source_run, source_store, source_verdict}
use Rattle.element_chain.specs.declared.chain.Wire.{Wire}
use Rattle.element_chain.specs.declared.chain.Target.{Target}
use Rattle.element_chain.specs.declared.chain.Target.TheVariants.{Element, Out}
use Rattle.element_chain.specs.Chain.{Connected, After, element_at, store_at, dropped, arrived, along, passed_on, run_within, chain_run}
use Rattle.element_chain.specs.Compose.{Numbering, Spot, Written, one, followed, joined, tests, sent_by, Ends, wires_of, ends_within, element_placed, entry_within, whole_within, composed, closed, clearing, is_set, base_of, locals_from}
use Rattle.element_chain.specs.Laws.{IsSmall, AreKept}
use Rattle.element_chain.proofs.Ranked.{IsRanked, IsWireOf, FallsTo}
use Rattle.packet_fields.specs.FieldOrder.{at_index, index-lt, length-all_fields}
use Rattle.element_lang.specs.KeptRuns.{start_fits}
use Rattle.element_chain.proofs.Numbers.{Extends, extends_self, extends_more, extends_push, IsNumbered, body_carries}
use Rattle.packet_fields.proofs.SetFields.{value_absent}
use Rattle.element_chain.proofs.Sent.{written_twice, sent_length}
use Rattle.element_chain.proofs.Sets.{set_only, set_by, sent_bytes}
use Rattle.element_chain.proofs.Stores.{joined_set, joined_at, base_right}
use Rattle.element_chain.proofs.Wired.{first_at, EachWire, each_of, first_of_all}
use Rattle.element_chain.proofs.Alike.{Instance, Alike, LocalsAlike, AlikeOutcomes, do_followed}
use Rattle.element_chain.proofs.ClearedFields.{eq_value, no_place, listed, clearing_leaves, before_clearing}
use Rattle.element_chain.proofs.Bodies.{ended, IsReady, do_one, body_alike}
use Rattle.lemmas.proofs.Tests.{and_first, and_second}

-- ## what always ends has ended
abbrev HasEnded : Outcome → Type 0
HasEnded (Running s) = ⊥
HasEnded (Ended st verdict) = Unit {0}

ended_behind : (o : Outcome) (go : State → Outcome) → ((s : State) → HasEnded (go s)) → HasEnded (then_do o go)
ended_behind (Running s) go ends = ends s
ended_behind (Ended st verdict) go ends = tt

ended_already : (o : Outcome) (go : State → Outcome) → HasEnded o → HasEnded (then_do o go)
ended_already (Running s) go ends = absurd ends
ended_already (Ended st verdict) go ends = tt

mutual
  stmt_ends : (widths : List ℕ) (packet : Packet) (s : StmtTree) (a : State) → always_ends s ≡ true → HasEnded (do_stmt widths packet s a)
  stmt_ends widths packet (choose test first second) a h =
      cond_both (value_of widths packet test a == 0) (do_body widths packet second a) (do_body widths packet first a) HasEnded
      (λ e. body_ends widths packet second a (and_second (ends_always first) _ h)) (λ e. body_ends widths packet first a (and_first _ _ h))
  stmt_ends widths packet (send port) a h = tt
  stmt_ends widths packet drop_all a h = tt
  stmt_ends widths packet _ a h = absurd (true≢false (sym h))

  body_ends : (widths : List ℕ) (packet : Packet) (b : BodyTree) (a : State) → ends_always b ≡ true → HasEnded (do_body widths packet b a)
  body_ends widths packet done a h = absurd (true≢false (sym h))
  body_ends widths packet (stmt s done) a h = ended_already (do_stmt widths packet s a) (do_body widths packet done) (stmt_ends widths packet s a h)
  body_ends widths packet (stmt s (stmt t b)) a h = ended_behind (do_stmt widths packet s a) (do_body widths packet (stmt t b)) (λ u. body_ends widths packet (stmt t b) u h)

-- ## fields by their places
counted : ℕ → List Field → Bool
counted k [] = true
counted k (f ∷ fs) = field_index f == k && counted (suc k) fs

all_counted : counted 0 all_fields ≡ true
unfolding all_fields counted
all_counted = refl

at_place_by : (fs : List Field) (k n : ℕ) → counted k fs ≡ true → n < length fs → field_index (get_or fs n MetaPort) ≡ k + n
unfolding counted
at_place_by [] k n h lt = absurd (omega (arith, lt))
at_place_by (f ∷ fs) k zero h lt = eqb-true (field_index f) k (and_first _ _ h) ∙ omega arith
at_place_by (f ∷ fs) k (suc n) h lt = at_place_by fs (suc k) n (and_second (field_index f == k) _ h) (omega (arith, lt)) ∙ omega arith

by_place : (values : List ℕ) (g : Field → ℕ) (k : ℕ) → length values ≡ 37 → ((f : Field) → field_index f ≢ 0 → slice_index values (field_index f) ≡ g f) → k ≢ 0
    → slice_index values k ≡ slice_index (map g all_fields) k
by_place values g k many each other = ⊎_elim inside outside (cases_lt k 37)
  where
    inside : k < 37 → slice_index values k ≡ slice_index (map g all_fields) k
    inside lt =
        let f : Field = get_or all_fields k MetaPort in
        let low : k < length all_fields = omega (arith, lt, length-all_fields) in
        let is : field_index f ≡ k = at_place_by all_fields 0 k all_counted low ∙ omega arith in
        ap (slice_index values) (sym is) ∙ each f (λ e. other (sym is ∙ e)) ∙ sym (get_or-map g all_fields k MetaPort 0 low)

    outside : 37 ≤ k → slice_index values k ≡ slice_index (map g all_fields) k
    outside le =
        get_or_past values k 0 (omega (arith, le, many))
        ∙ sym (get_or_past (map g all_fields) k 0 (omega (arith, le, length-map all_fields g, length-all_fields)))

first_field : (g : Field → ℕ) → slice_index (map g all_fields) 0 ≡ g MetaPort
unfolding all_fields
first_field g = refl

port_read : (bytes : List ℕ) (port : ℕ) → field_value bytes port MetaPort ≡ port
port_read bytes port = value_absent bytes port MetaPort (no_place (shape_of bytes) MetaPort refl)

-- ## an element at its place
pub good_at : (c : Connected) → IsRanked c → (e : ℕ) → is_good_body (element_at c.elements e) [] 0 (element_at c.elements e).body ≡ true
good_at c fit e = ⊎_elim (λ lt. and_second _ _ (fit.good e lt))
    (λ le. subst (λ (m : Tree). is_good_body m [] 0 m.body ≡ true) (sym (get_or_past c.elements e (record { objects = []; locals = []; body = done }) le)) refl)
    (cases_lt e (length c.elements))

locals_at : (c : Connected) → IsRanked c → (e : ℕ) → e < length c.elements → declared_by (element_at c.elements e).body ≡ length (element_at c.elements e).locals
locals_at c fit e lt = eqb-true (declared_by (element_at c.elements e).body) (length (element_at c.elements e).locals) (and_second _ _ (and_first _ _ (fit.good e lt)))

pub no_names : (own widths : List ℕ) → IsNumbered own (record { names = []; widths = widths })
no_names own widths = record {
  below = λ x lt. absurd (omega (arith, lt));
  wide = λ x lt. absurd (omega (arith, lt));
  apart = λ x y lt. absurd (omega (arith, lt));
}

-- ### more locals
abbrev pub GrowEnds : Ends → Type 0
GrowEnds end = (target : Target) (input : ℕ) (widths : List ℕ) → Extends widths (end target input widths).widths

pub tests_grow : (end : Ends) → GrowEnds end → (v : ℕ) (ws : List Wire) (widths : List ℕ) → Extends widths (tests end v ws widths).widths
tests_grow end grow v [] widths = extends_self widths
tests_grow end grow v (w ∷ ws) widths =
    extends_more widths (end w.to w.input widths).widths (tests end v ws (end w.to w.input widths).widths).widths
    (grow w.to w.input widths) (tests_grow end grow v ws (end w.to w.input widths).widths)

pub sent_grow : (end : Ends) → GrowEnds end → (ws : List Wire) (port : ExprTree) (widths : List ℕ) → Extends widths (sent_by end ws port widths).widths
sent_grow end grow [] port widths = extends_self widths
sent_grow end grow (w ∷ ws) port widths =
    extends_more widths (widths ++ 8 ∷ []) (tests end (length widths) (w ∷ ws) (widths ++ 8 ∷ [])).widths (extends_push widths 8)
    (tests_grow end grow (length widths) (w ∷ ws) (widths ++ 8 ∷ []))

placed_grows : (c : Connected) → IsRanked c → (end : Ends) → GrowEnds end → (port : Option ℕ) (e : ℕ) (widths : List ℕ) → Extends widths (element_placed c end port e widths).numbering.widths
placed_grows c fit end grow port e widths =
    let m : Tree = element_at c.elements e in
    let spot : Spot = record { widths = local_widths m; base = base_of c.elements e; port = port } in
    (body_carries m spot (sent_by end (wires_of c.wires e)) (sent_grow end grow (wires_of c.wires e)) [] 0 m.body (record { names = []; widths = widths }) refl (good_at c fit e)
    (no_names (local_widths m) widths)).widths

pub ends_grow : (c : Connected) → IsRanked c → (n : ℕ) → GrowEnds (ends_within c n)
ends_grow c fit n Out input widths = extends_self widths
ends_grow c fit zero (Element e) input widths = extends_self widths
ends_grow c fit (suc n) (Element e) input widths = placed_grows c fit (ends_within c n) (ends_grow c fit n) (Some input) e widths

-- ### stores
store_set : (stores : List Store) (e i : ℕ) (st : Store) → e < length stores → (P : Store → Type 0) → (i ≡ e → P st) → (i ≢ e → P (store_at stores i)) → P (store_at (slice_set stores e st) i)
store_set stores e i st lt P here there =
    ⊎_elim (λ same. subst P (sym (get_or-set_at stores e i st [] same lt)) (here same))
    (λ other. subst P (sym (get_or-set_other stores e i st [] other)) (there other))
    (cases_eq i e)

kept_set : (elements : List Tree) (stores : List Store) (e : ℕ) (st : Store) → e < length elements → AreKept elements stores → IsKept (element_at elements e).objects st → AreKept elements (slice_set stores e st)
kept_set elements stores e st lt kept is = record {
  count = length-set stores e st ∙ kept.count;
  each = λ i below. store_set stores e i st (omega (arith, lt, kept.count)) (IsKept (element_at elements i).objects)
      (λ same. subst (λ k. IsKept (element_at elements k).objects st) (sym same) is)
      (λ other. kept.each i below);
}

-- ## what stands at a send
-- the whole where a packet comes to the end of a wire
pub record IsAtEnd (c : Connected) (widths : List ℕ) (whole : Packet) (t : State) (stores : List Store) : Type 0 where
  pub many : length t.locals ≡ length widths
  pub all : length t.fields ≡ 37
  pub fit : (f : Field) → (row f).writable ≡ true → slice_index t.fields (field_index f) < 2 ^ (row f).width
  pub kept : AreKept c.elements stores
  pub store : t.store ≡ joined stores
  pub unset : (f : Field) → is_set c.elements f ≡ false → slice_index t.fields (field_index f) ≡ field_value whole.bytes whole.port f

-- what stands at the end of a wire does what the chain does there
abbrev pub EndRight : (c : Connected) → IsRanked c → List ℕ → Packet → ℕ → Type 0
EndRight c fit widths whole n = (target : Target) (input : ℕ) (before : List ℕ) (t : State) (stores : List Store) → FallsTo c fit.rank (fit.rank 0) target → input < 2 ^ 8 → IsAtEnd c widths whole t stores
    → Extends (ends_within c n target input before).widths widths
    → do_body widths whole (ends_within c n target input before).body t ≡ ended (arrived (run_within c n) target input stores (with_fields all_fields t.fields whole.bytes))

dropped_right : (c : Connected) (widths : List ℕ) (whole : Packet) (t : State) (stores : List Store) → IsAtEnd c widths whole t stores → do_body widths whole (one drop_all) t ≡ ended (dropped stores)
dropped_right c widths whole t stores at = ap (λ st. Ended st Drop) at.store

pub falls_further : (c : Connected) (rank : ℕ → ℕ) (from further : ℕ) (target : Target) → from ≤ further → FallsTo c rank from target → FallsTo c rank further target
falls_further c rank from further Out le falls = tt
falls_further c rank from further (Element e) le falls = (falls.0, omega (arith, falls.1, le))

tests_right : (c : Connected) → (fit : IsRanked c) → (widths : List ℕ) (whole : Packet) (n : ℕ) → EndRight c fit widths whole n → (e v x : ℕ) (ws : List Wire) (before : List ℕ) (t : State) (stores : List Store)
    → fit.rank e ≤ fit.rank 0 → EachWire (λ (w : Wire). IsWireOf c fit.rank w × (w.from ≡ e)) ws → slice_index t.locals v ≡ x → IsAtEnd c widths whole t stores → Extends (tests (ends_within c n) v ws before).widths widths
    → do_body widths whole (tests (ends_within c n) v ws before).body t ≡ ended (along (run_within c n) (first_at x ws) stores (with_fields all_fields t.fields whole.bytes))
tests_right c fit widths whole n ends e v x [] before t stores low each is at grown = dropped_right c widths whole t stores at
tests_right c fit widths whole n ends e v x (w ∷ ws) before t stores low each is at grown =
    let first : Written = ends_within c n w.to w.input before in
    let rest : Written = tests (ends_within c n) v ws first.widths in
    let bytes : List ℕ = with_fields all_fields t.fields whole.bytes in
    do_one widths whole (choose (apply Eq 1 (expr (local v) (expr (lit w.output 8) no_expr))) first.body rest.body) t
    ∙ ap (λ u. cond (u == 0) (do_body widths whole rest.body t) (do_body widths whole first.body t)) (ap (λ k. operator_value Eq 1 (k ∷ w.output ∷ [])) is ∙ eq_value x w.output)
    ∙ by_test (x == w.output)
    (ends w.to w.input before t stores (falls_further c fit.rank (fit.rank w.from) (fit.rank 0) w.to (subst (λ k. fit.rank k ≤ fit.rank 0) (sym each.0.1) low) each.0.0.to) each.0.0.input at
    (extends_more first.widths rest.widths widths (tests_grow (ends_within c n) (ends_grow c fit n) v ws first.widths) grown))
    (tests_right c fit widths whole n ends e v x ws first.widths t stores low each.1 is at grown)
  where
    by_test : (b : Bool) → do_body widths whole (ends_within c n w.to w.input before).body t ≡ ended (arrived (run_within c n) w.to w.input stores (with_fields all_fields t.fields whole.bytes))
        → do_body widths whole (tests (ends_within c n) v ws (ends_within c n w.to w.input before).widths).body t ≡ ended (along (run_within c n) (first_at x ws) stores (with_fields all_fields t.fields whole.bytes))
        → cond (cond b 1 0 == 0) (do_body widths whole (tests (ends_within c n) v ws (ends_within c n w.to w.input before).widths).body t) (do_body widths whole (ends_within c n w.to w.input before).body t)
        ≡ ended (along (run_within c n) (cond b (Some w) (first_at x ws)) stores (with_fields all_fields t.fields whole.bytes))
    by_test true one other = one
    by_test false one other = other

bound_at : (c : Connected) (widths : List ℕ) (whole : Packet) (t : State) (stores : List Store) (v x : ℕ) → IsAtEnd c widths whole t stores → IsAtEnd c widths whole (bound v x t) stores
bound_at c widths whole t stores v x at = record {
  many = length-set t.locals v x ∙ at.many;
  all = at.all;
  fit = at.fit;
  kept = at.kept;
  store = at.store;
  unset = at.unset;
}

sent_right : (c : Connected) → (fit : IsRanked c) → (widths : List ℕ) (whole : Packet) (n : ℕ) → EndRight c fit widths whole n → (e : ℕ) (ws : List Wire) (port : ExprTree) (before : List ℕ) (t : State) (stores : List Store)
    → fit.rank e ≤ fit.rank 0 → EachWire (λ (w : Wire). IsWireOf c fit.rank w × (w.from ≡ e)) ws → IsAtEnd c widths whole t stores → Extends (sent_by (ends_within c n) ws port before).widths widths
    → do_body widths whole (sent_by (ends_within c n) ws port before).body t
    ≡ ended (along (run_within c n) (first_at (value_of widths whole port t) ws) stores (with_fields all_fields t.fields whole.bytes))
sent_right c fit widths whole n ends e [] port before t stores low each at grown = dropped_right c widths whole t stores at
sent_right c fit widths whole n ends e (w ∷ ws) port before t stores low each at grown =
    let v : ℕ = length before in
    let x : ℕ = value_of widths whole port t in
    let more : Extends (before ++ 8 ∷ []) (tests (ends_within c n) v (w ∷ ws) (before ++ 8 ∷ [])).widths = tests_grow (ends_within c n) (ends_grow c fit n) v (w ∷ ws) (before ++ 8 ∷ []) in
    let room : v < length t.locals = omega (arith, at.many, grown.longer, more.longer, length_push before 8) in
    tests_right c fit widths whole n ends e v x (w ∷ ws) (before ++ 8 ∷ []) (bound v x t) stores low each (get_or-set_same t.locals v x 0 room) (bound_at c widths whole t stores v x at) grown

-- ## an element in the whole
-- a run of the whole, with the stores that the elements have when the packet comes to this one
abbrev instance_at : Connected → List ℕ → Packet → ℕ → ℕ → List Store → Packet → Option ℕ → Instance
instance_at c widths whole n e stores own port = record {
  m = element_at c.elements e;
  widths = widths;
  whole = whole;
  own = own;
  base = base_of c.elements e;
  port = port;
  before = joined (take e stores);
  after = joined (drop (suc e) stores);
  is_set = is_set c.elements;
  leaves = λ st verdict. passed_on (run_within c n) c.wires e (slice_set stores e st) verdict;
}

nothing_named : (i : Instance) (own whole_locals : List ℕ) → length whole_locals ≡ length i.widths → length own ≡ length i.m.locals → LocalsAlike i [] [] own whole_locals
nothing_named i own whole_locals many own_many = record { agree = λ x is. absurd (true≢false (sym is)); many = many; own_many = own_many }

ready_at : (c : Connected) → (fit : IsRanked c) → (widths : List ℕ) (whole : Packet) (n : ℕ) → EndRight c fit widths whole n → (e : ℕ) (stores : List Store) (own : Packet) (port : Option ℕ) → e < length c.elements → fit.rank e ≤ fit.rank 0 → AreKept c.elements stores
    → IsArrival own → ((values : List ℕ) → with_fields all_fields values own.bytes ≡ with_fields all_fields values whole.bytes)
    → IsReady (instance_at c widths whole n e stores own port) (sent_by (ends_within c n) (wires_of c.wires e))
ready_at c fit widths whole n ends e stores own port lt behind kept arrives as_sent =
    let room : e < length stores = omega (arith, lt, kept.count) in
    record {
      arrives = arrives;
      base = base_right c.elements stores e kept.count (λ i below. (kept.each i below).count) lt;
      as_sent = as_sent;
      drops = λ st. (sym (joined_set stores e st room), refl);
      grow = sent_grow (ends_within c n) (ends_grow c fit n) (wires_of c.wires e);
      sends = λ send_port before t st at low grown.
          sent_right c fit widths whole n ends e (wires_of c.wires e) send_port before t (slice_set stores e st)
          behind (each_of (IsWireOf c fit.rank) c.wires e fit.wires)
          (record {
            many = at.many;
            all = at.all;
            fit = at.fit;
            kept = kept_set c.elements stores e st lt kept at.kept;
            store = at.store ∙ sym (joined_set stores e st room);
            unset = at.unset;
          }) grown
          ∙ ap (λ (o : Option Wire). ended (along (run_within c n) o (slice_set stores e st) (with_fields all_fields t.fields whole.bytes)))
          (first_of_all c.wires e (value_of widths whole send_port t) low);
    }

-- what the chain does with the outcome of an element
abbrev after_outcome : Instance → Outcome → After
after_outcome i o = i.leaves (store_after o) (verdict_after o)

same_end : (a b : Store) (x y : Verdict) → a ≡ b → x ≡ y → Ended a x ≡ Ended b y
same_end a b x y p q = ap (λ st. Ended st x) p ∙ ap (λ v. Ended b v) q

end_ended : (i : Instance) (scope names : List ℕ) (o p : Outcome) → AlikeOutcomes i scope names o p → HasEnded o → p ≡ ended (after_outcome i o)
end_ended i scope names (Running s) (Running t) alike has = absurd has
end_ended i scope names (Running s) (Ended all last) alike has = absurd alike
end_ended i scope names (Ended st verdict) (Running t) alike has = absurd alike
end_ended i scope names (Ended st verdict) (Ended all last) alike has = same_end all (joined (i.leaves st verdict).stores) last (i.leaves st verdict).verdict alike.0 alike.1

store_same : (i : Instance) (scope names : List ℕ) (o p : Outcome)
    → ((st : Store) → (i.before ++ (st ++ i.after) ≡ joined (i.leaves st Drop).stores) × (Drop ≡ (i.leaves st Drop).verdict))
    → AlikeOutcomes i scope names o p → (store_after p ≡ joined (after_outcome i o).stores) × (verdict_after p ≡ (after_outcome i o).verdict)
store_same i scope names (Running s) (Running t) drops alike = (alike.store ∙ (drops s.store).0, (drops s.store).1)
store_same i scope names (Ended st verdict) (Ended all last) drops alike = alike
store_same i scope names o p drops alike = absurd alike

dropped_as : (widths : List ℕ) (packet : Packet) (p : Outcome) (a : After) → (store_after p ≡ joined a.stores) × (verdict_after p ≡ a.verdict)
    → then_do p (do_body widths packet (one drop_all)) ≡ ended a
dropped_as widths packet (Running t) a same = same_end t.store (joined a.stores) Drop a.verdict same.0 same.1
dropped_as widths packet (Ended all last) a same = same_end all (joined a.stores) last a.verdict same.0 same.1

closed_right : (i : Instance) (widths : List ℕ) (packet : Packet) (scope names : List ℕ) (own placed : BodyTree) (a u : State)
    → ((st : Store) → (i.before ++ (st ++ i.after) ≡ joined (i.leaves st Drop).stores) × (Drop ≡ (i.leaves st Drop).verdict))
    → AlikeOutcomes i scope names (do_body (local_widths i.m) i.own own a) (do_body widths packet placed u)
    → do_body widths packet (closed own placed) u ≡ ended (after_outcome i (do_body (local_widths i.m) i.own own a))
closed_right i widths packet scope names own placed a u drops alike =
    let o : Outcome = do_body (local_widths i.m) i.own own a in
    cond_both (ends_always own) placed (followed placed (one drop_all)) (λ b. do_body widths packet b u ≡ ended (after_outcome i o))
    (λ h. end_ended i scope names o (do_body widths packet placed u) alike (body_ends (local_widths i.m) i.own own a h))
    (λ h. do_followed widths packet placed (one drop_all) u
    ∙ dropped_as widths packet (do_body widths packet placed u) (after_outcome i o) (store_same i scope names o (do_body widths packet placed u) drops alike))

-- ## the elements behind the entry
entered_right : (c : Connected) → (fit : IsRanked c) → (widths : List ℕ) (whole : Packet) → IsArrival whole → (n : ℕ) → EndRight c fit widths whole n → (e input : ℕ) (before : List ℕ) (t : State) (stores : List Store) → (e < length c.elements) × (fit.rank e < fit.rank 0)
    → input < 2 ^ 8 → IsAtEnd c widths whole t stores → Extends (ends_within c (suc n) (Element e) input before).widths widths
    → do_body widths whole (ends_within c (suc n) (Element e) input before).body t ≡ ended (run_within c (suc n) e stores (record { port = input; bytes = with_fields all_fields t.fields whole.bytes }))
entered_right c fit widths whole arrives n ends e input before t stores there small at grown =
    let m : Tree = element_at c.elements e in
    let bytes : List ℕ = with_fields all_fields t.fields whole.bytes in
    let own : Packet = record { port = input; bytes = bytes } in
    let fs : List Field = filter (is_set c.elements) all_fields in
    let only : (f : Field) → is_set c.elements f ≡ true → (row f).writable ≡ true = (λ f h. set_only c.elements f (λ k lt. good_at c fit k) h) in
    let room : e < length stores = omega (arith, there.0, at.kept.count) in
    let own_arrives : IsArrival own = record { port = small; bytes = sent_bytes t.fields whole.bytes arrives.bytes; size = omega (arith, sent_length t.fields whole.bytes, arrives.size) } in
    let clear = clearing_leaves widths whole (is_set c.elements) only t.fields input at.fit fs t listed_set at.all
    (before_clearing widths whole (is_set c.elements) only t.fields input at.fit at.unset) at.fit in
    let u : State = clear.0 in
    let i : Instance = instance_at c widths whole n e stores own (Some input) in
    let ready = ready_at c fit widths whole n ends e stores own (Some input) there.0 (omega (arith, there.1)) at.kept own_arrives (λ values. written_twice t.fields values whole.bytes) in
    let a : State = start_state m (store_at stores e) own in
    let start : Numbering = record { names = []; widths = before } in
    let alike : Alike i [] [] a u = record {
      locals = nothing_named i a.locals u.locals (ap (λ (xs : List ℕ). length xs) clear.2.locals ∙ at.many) (length-replicate (length m.locals) 0);
      fields = record {
        same = λ k other. by_place u.fields (field_value bytes input) k clear.2.all (λ f apart. clear.2.clear f apart (inr refl)) other;
        all = clear.2.all;
        own_all = length-map all_fields (field_value bytes input) ∙ length-all_fields;
        port = sym (first_field (field_value bytes input) ∙ port_read bytes input);
        unset = λ f never. clear.2.unset f never ∙ at.unset f never;
      };
      store = clear.2.store ∙ at.store ∙ joined_at stores e room;
    } in
    let result = body_alike i (sent_by (ends_within c n) (wires_of c.wires e)) ready [] 0 m.body start refl (good_at c fit e) (no_names (local_widths m) before)
    (λ y is. absurd (true≢false (sym is))) (omega (arith, locals_at c fit e there.0)) grown
    (λ h. absurd (true≢false (sym h ∙ fit.plain e (not_entry e there.1)))) (λ f h. set_by c.elements e f there.0 h) a u
    (start_fits m (store_at stores e) own own_arrives (at.kept.each e there.0)) alike in
    let placed : BodyTree = (element_placed c (ends_within c n) (Some input) e before).body in
    do_followed widths whole (clearing fs) (closed m.body placed) t
    ∙ ap (λ o. then_do o (do_body widths whole (closed m.body placed))) clear.1
    ∙ closed_right i widths whole [] [] m.body placed a u ready.drops result
  where
    not_entry : (k : ℕ) → fit.rank k < fit.rank 0 → 0 < k
    not_entry zero lt = absurd (omega (arith, lt))
    not_entry (suc k) lt = omega arith

    listed_set : (g : Field) → list_any (λ h. field_index h == field_index g) (filter (is_set c.elements) all_fields) ≡ true → is_set c.elements g ≡ true
    listed_set g h = and_first _ _ (sym (listed (is_set c.elements) all_fields g) ∙ h)

pub end_right : (c : Connected) → (fit : IsRanked c) → (widths : List ℕ) (whole : Packet) → IsArrival whole → (n : ℕ) → EndRight c fit widths whole n
end_right c fit widths whole arrives n Out input before t stores there small at grown =
    same_end t.store (joined stores) (Send (input % 2 ^ 8) (with_fields all_fields t.fields whole.bytes)) (Send input (with_fields all_fields t.fields whole.bytes)) at.store
    (ap (λ k. Send k (with_fields all_fields t.fields whole.bytes)) (mod-eq_of_lt small))
end_right c fit widths whole arrives zero (Element e) input before t stores there small at grown = dropped_right c widths whole t stores at
end_right c fit widths whole arrives (suc n) (Element e) input before t stores there small at grown =
    entered_right c fit widths whole arrives n (end_right c fit widths whole arrives n) e input before t stores there small at grown

-- ## the entry
pub width_of_locals : (k : ℕ) (ws : List ℕ) → map (λ l. l.width) (locals_from k ws) ≡ ws
width_of_locals k [] = refl
width_of_locals k (w ∷ ws) = ap (λ rest. w ∷ rest) (width_of_locals (suc k) ws)

pub length_of_locals : (k : ℕ) (ws : List ℕ) → length (locals_from k ws) ≡ length ws
length_of_locals k [] = refl
length_of_locals k (w ∷ ws) = ap suc (length_of_locals (suc k) ws)

pub entry_few : (c : Connected) → IsSmall c → length (entry_within c (length c.elements)).numbering.widths < 2 ^ 64
entry_few c small = omega (arith, small.locals, length_of_locals 0 (entry_within c (length c.elements)).numbering.widths)

entry_alike : (c : Connected) → IsRanked c → (n : ℕ) (stores : List Store) (whole : Packet) → IsArrival whole → AreKept c.elements stores
    → AlikeOutcomes (instance_at c (entry_within c n).numbering.widths whole n 0 stores whole None) [] []
    (do_body (local_widths (element_at c.elements 0)) whole (element_at c.elements 0).body (start_state (element_at c.elements 0) (store_at stores 0) whole))
    (do_body (entry_within c n).numbering.widths whole (entry_within c n).body (start_state (whole_within c n) (joined stores) whole))
entry_alike c fit n stores whole arrives kept =
    let widths : List ℕ = (entry_within c n).numbering.widths in
    let m : Tree = element_at c.elements 0 in
    let i : Instance = instance_at c widths whole n 0 stores whole None in
    let room : 0 < length stores = omega (arith, fit.some, kept.count) in
    let ready = ready_at c fit widths whole n (end_right c fit widths whole arrives n) 0 stores whole None fit.some (omega arith) kept arrives (λ values. refl) in
    let a : State = start_state m (store_at stores 0) whole in
    let t : State = start_state (whole_within c n) (joined stores) whole in
    let g : Field → ℕ = field_value whole.bytes whole.port in
    let alike : Alike i [] [] a t = record {
      locals = nothing_named i a.locals t.locals (length-replicate (length (whole_within c n).locals) 0 ∙ length_of_locals 0 widths) (length-replicate (length m.locals) 0);
      fields = record {
        same = λ k other. refl;
        all = length-map all_fields g ∙ length-all_fields;
        own_all = length-map all_fields g ∙ length-all_fields;
        port = refl;
        unset = λ f never. let low : field_index f < length all_fields = omega (arith, index-lt f, length-all_fields) in get_or-map g all_fields (field_index f) MetaPort 0 low ∙ ap g (at_index f);
      };
      store = joined_at stores 0 room;
    } in
    body_alike i (sent_by (ends_within c n) (wires_of c.wires 0)) ready [] 0 m.body (record { names = []; widths = [] }) refl (good_at c fit 0) (no_names (local_widths m) [])
    (λ y is. absurd (true≢false (sym is))) (omega (arith, locals_at c fit 0 fit.some)) (extends_self widths)
    (λ h. refl) (λ f h. set_by c.elements 0 f fit.some h) a t
    (start_fits m (store_at stores 0) whole arrives (kept.each 0 fit.some)) alike

-- from every store that keeps what is declared, for every packet that may arrive
pub whole_is_chain : (c : Connected) (stores : List Store) (packet : Packet) → IsRanked c → AreKept c.elements stores → IsArrival packet
    → (source_store (composed c) (joined stores) packet ≡ joined (chain_run c stores packet).stores) × (source_verdict (composed c) (joined stores) packet ≡ (chain_run c stores packet).verdict)
whole_is_chain c stores packet fit kept arrives =
    let n : ℕ = length c.elements in
    let widths : List ℕ = (entry_within c n).numbering.widths in
    let m : Tree = element_at c.elements 0 in
    let room : 0 < length stores = omega (arith, fit.some, kept.count) in
    let i : Instance = instance_at c widths packet n 0 stores packet None in
    let o : Outcome = do_body (local_widths m) packet m.body (start_state m (store_at stores 0) packet) in
    let p : Outcome = do_body widths packet (entry_within c n).body (start_state (composed c) (joined stores) packet) in
    let both = store_same i [] [] o p (λ st. (sym (joined_set stores 0 st room), refl)) (entry_alike c fit n stores packet arrives kept) in
    let same : source_run (composed c) (joined stores) packet ≡ p = ap (λ ws. do_body ws packet (entry_within c n).body (start_state (composed c) (joined stores) packet)) (width_of_locals 0 widths) in
    (ap store_after same ∙ both.0, ap verdict_after same ∙ both.1)
