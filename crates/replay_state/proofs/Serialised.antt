-- What the invariant says of the run that is told.
use Rattle.std.proofs.Common.{◌≡◌, ℕ, zero, suc, ◌<◌, ◌≤◌, Bool, true, false, cond, ◌⊎◌, List, [], ◌∷◌, Option, Some, None, inl, inr, refl, sym, ◌∙◌, ap, subst, arith, map, length}
use Rattle.std.specs.Prelude.{slice_get}
use Rattle.std.specs.Option.{option_map}
use Rattle.std.proofs.lemmas.Bool.{cases_lt, cases_Bool, eqb-true, and_parts}
use Rattle.std.proofs.lemmas.List.{length-map, nil_from_length}
use Rattle.std.proofs.lemmas.Option.{same_Some, none-some, slice_get-map}
use Rattle.packet_fields.specs.declared.verdict.Verdict.{Verdict}
use Rattle.state_store.specs.declared.object.ObjectDecl.{ObjectDecl}
use Rattle.state_store.specs.Store.{Store, start_store, object_at, rows_of}
use Rattle.run_model.specs.declared.fate.Fate.{Fate}
use Rattle.run_model.specs.declared.run.ObjectRows.{ObjectRows}
use Rattle.run_model.specs.declared.serial.Decided.{Decided}
use Rattle.run_model.specs.Meaning as meaning
use Rattle.run_model.specs.Order.{order_of}
use Rattle.run_model.specs.Parts.{parts_of, parts_where}
use Rattle.run_model.specs.Serialises as run
use Rattle.run_model.specs.Serialises.{Serialises, AllReleased, ShowsWhatIsLeft, IsEarlier, times, run_store, run_verdicts}
use Rattle.replay_state.specs.Answers.{Answers, Setup, meaning_of}
use Rattle.output_commit.specs.Batches.{commands_in, visible}
use Rattle.replay_state.specs.State.{State, Progress, Entered, Up, Held, Slow, Fast, fate_of, seen}
use Rattle.replay_state.specs.Drain.{is_quiet}
use Rattle.replay_state.specs.Run.{run_of, seen_store}
use Rattle.run_model.proofs.RisingEntries.{rising_places, times_none, times_once, Before, Rising, before_self, before_not_back}
use Rattle.run_model.proofs.Members.{member_get, get_member}
use Rattle.run_model.proofs.SerialSort.{order_unique}
use Rattle.replay_state.proofs.Words.{version_at, entry_of, admitted_at, released_at, verdict_at, is_decided, upto}
use Rattle.replay_state.proofs.Order.{upto_all}
use Rattle.replay_state.proofs.Lists.{weight}
use Rattle.replay_state.proofs.SortedFates.{IsOrder, entry_number, of_fates}
use Rattle.replay_state.proofs.Visible.{visible_all}
use Rattle.replay_state.proofs.Fates.{FateOk, Pair, pass_mark, up_mark, held_mark, in_first, in_last, in_up, in_held}
use Rattle.replay_state.proofs.Serial.{left_by, numbers_of}
use Rattle.replay_state.proofs.Effects.{Consistent}
use Rattle.replay_state.proofs.Runs.{Apart, entry_fact, what_at}
use Rattle.replay_state.proofs.InvariantKept.{Kept}
use Rattle.lemmas.proofs.Lists.{get_mapped, get_within, map_get}

pub entry_version : (n : ℕ) (f : Option Progress) (e : Decided) → entry_of n f ≡ Some e → version_at f ≡ Some e.version
entry_version n (Some (Held a d v y)) e h = ap (λ z. Some z.version) (same_Some _ _ h)
entry_version n (Some (Slow a d v y r)) e h = ap (λ z. Some z.version) (same_Some _ _ h)
entry_version n (Some (Fast a d v y)) e h = ap (λ z. Some z.version) (same_Some _ _ h)
entry_version n f e h = cc

-- the entry of a decided packet
pub decided_entry : (n : ℕ) (f : Option Progress) → is_decided f ≡ true → (e : Decided) × (entry_of n f ≡ Some e)
decided_entry n (Some (Held a d v y)) h = (_, refl)
decided_entry n (Some (Slow a d v y r)) h = (_, refl)
decided_entry n (Some (Fast a d v y)) h = (_, refl)
decided_entry n f h = cc

pub undecided_entry : (n : ℕ) (f : Option Progress) (e : Decided) → is_decided f ≡ false → entry_of n f ≡ Some e → ⊥
undecided_entry n (Some (Entered a v)) e h k = cc
undecided_entry n f e h k = cc

pub once_from : (fates : List Progress) (es : List Decided) (p : ℕ) → IsOrder fates es → times p (map (λ e. e.number) es) ≡ cond (is_decided (slice_get fates p)) 1 0
once_from fates es p o = elim (cases_Bool (is_decided (slice_get fates p))) [
  | inl t ↦
      let found = decided_entry p (slice_get fates p) t in
      let e = found.0 in
      let is : e.number ≡ p = entry_number p (slice_get fates p) e found.1 in
      rw t (times_once p (entry_of p (slice_get fates p)) es e o.rising
      (λ x m q. subst (λ z. entry_of z (slice_get fates z) ≡ Some x) q (o.sound x m)) is
      (o.complete e (subst (λ z. entry_of z (slice_get fates z) ≡ Some e) (sym is) found.1)))
  | inr n ↦ rw n (times_none p es (λ e m q. undecided_entry p (slice_get fates p) e n (subst (λ z. entry_of z (slice_get fates z) ≡ Some e) q (o.sound e m))))
]

pub place_before : (es : List Decided) (i j : ℕ) (x y : Decided) → Rising es → Before x y → slice_get es i ≡ Some x → slice_get es j ≡ Some y → i < j
place_before es i j x y up b hi hj = elim (cases_lt i j) [
  | inl lt ↦ lt
  | inr ge ↦ elim (cases_lt j i) [
    | inl gt ↦ absurd (before_not_back x y b (rising_places es j i y x up gt hj hi))
    | inr le ↦ let same : j ≡ i = omega arith in
        let is : x ≡ y = same_Some _ _ (sym hi ∙ subst (λ z. slice_get es z ≡ Some y) same hj) in
        absurd (before_self y (subst (λ z. Before z y) is b))
  ]
]

-- p was released before q was admitted, and both are decided: then p's entry stands before q's
pub entries_before : (now version most p q r a : ℕ) (f g : Progress) (x y : Decided) → FateOk now version most f → FateOk now version most g → Pair f g
    → released_at (Some f) ≡ Some r → admitted_at (Some g) ≡ Some a → r < a → entry_of p (Some f) ≡ Some x → entry_of q (Some g) ≡ Some y → Before x y
entries_before now version most p q r a f g x y ok kk pair hr ha lt hx hy =
    let vx = entry_version p (Some f) x hx in
    let vy = entry_version q (Some g) y hy in
    let le = pair.is r a x.version y.version hr ha lt vx vy in
    let ex = event_le f p x now version most r ok hr hx in
    let ey = event_ge g q y now version most a kk ha hy in
    record { version = le; event = λ h. omega arith; number = λ h k. absurd (omega arith) }
  where
    event_le : (f : Progress) (p : ℕ) (x : Decided) (now version most r : ℕ) → FateOk now version most f → released_at (Some f) ≡ Some r → entry_of p (Some f) ≡ Some x → x.event ≤ r
    event_le (Slow a d v y t) p x now version most r ok e h = let i = same_Some _ _ e in let k = ap (λ z. z.event) (same_Some _ _ h) in omega arith
    event_le (Fast a d v y) p x now version most r ok e h = let i = same_Some _ _ e in let k = ap (λ z. z.event) (same_Some _ _ h) in omega arith
    event_le f p x now version most r ok e h = cc

    event_ge : (f : Progress) (p : ℕ) (x : Decided) (now version most a : ℕ) → FateOk now version most f → admitted_at (Some f) ≡ Some a → entry_of p (Some f) ≡ Some x → a ≤ x.event
    event_ge (Up b) p x now version most a ok e h = cc
    event_ge (Entered b v) p x now version most a ok e h = cc
    event_ge f p x now version most a ok e h = let i = same_Some _ _ e in let k = ap (λ z. z.event) (same_Some _ _ h) in omega arith

pub some_since : (f : Option Progress) (p : ℕ) (x : Decided) → entry_of p f ≡ Some x → (g : Progress) × (f ≡ Some g)
some_since None p x h = cc
some_since (Some g) p x h = (g, refl)

-- ---- what a fate says of a progress

abbrev pub shown : Option Progress → Option Fate
shown x = option_map fate_of x

pub fates_at : (ps : List Progress) (p : ℕ) → slice_get (map fate_of ps) p ≡ shown (slice_get ps p)
fates_at ps p = slice_get-map fate_of ps p

decided_when : (p : ℕ) (x : Option Progress) (e : Decided) (at : ℕ × ℕ) → entry_of p x ≡ Some e → run.decided_at (shown x) ≡ Some at → (at.0 ≡ e.version) × (at.1 ≡ e.event)
decided_when p None e at h k = absurd (none-some e h)
decided_when p (Some (Entered a v)) e at h k = absurd (none-some e h)
decided_when p (Some (Up a)) e at h k = absurd (none-some e h)
decided_when p (Some old) e at h k = let same = same_Some _ _ k in let is = same_Some _ _ h in
    (sym (ap (λ z. z.0) same) ∙ ap (λ (z : Decided). z.version) is, sym (ap (λ z. z.1) same) ∙ ap (λ (z : Decided). z.event) is)

-- a release tells the verdict
released_said : (a : Answers) (p : ℕ) (x : Option Progress) (r : ℕ) (y : Verdict) → run.released_at (shown x) ≡ Some (r, y) → (verdict_at a p x ≡ Some y) × (released_at x ≡ Some r)
released_said a p (Some (Slow b d v z t)) r y k = let same = same_Some _ _ k in (ap (λ f. Some (f.1)) same, ap (λ f. Some (f.0)) same)
released_said a p (Some (Fast b d v z)) r y k = let same = same_Some _ _ k in (ap (λ f. Some (f.1)) same, ap (λ f. Some (f.0)) same)
released_said a p x r y k = absurd (none-some _ k)

-- the order that is told
order_is : (ps : List Progress) (es : List Decided) → IsOrder ps es → order_of (map fate_of ps) ≡ numbers_of es
order_is ps es o = ap numbers_of (sym (order_unique (map fate_of ps) es (of_fates ps es o)))

-- of two entries in their places the first is decided earlier
earlier_in : (es : List Decided) (i j : ℕ) (x y : Decided) → Rising es → Apart es → i < j → slice_get es i ≡ Some x → slice_get es j ≡ Some y
    → IsEarlier (x.version, x.event) (y.version, y.event)
earlier_in es i j x y up apart lt hi hj =
    let b = rising_places es i j x y up lt hi hj in
    let low = b.version in
    elim (cases_lt x.version y.version) [
      | inl before ↦ inl before
      | inr late ↦
          let le = b.event late in
          elim (cases_lt x.event y.event) [
            | inl first ↦ inr (omega arith, first)
            | inr again ↦
                let same = apart x y (get_member es i x hi) (get_member es j y hj) (omega arith) in
                let more = b.number late again in
                absurd (omega arith)
          ]
    ]

-- ---- the run serialises

module _ (setup : Setup) (a : Answers) (w : State) (k : Kept setup a w) where
  numbers_are : order_of (map fate_of w.progress) ≡ numbers_of k.own.entries
  numbers_are = order_is w.progress k.own.entries k.own.order

  -- the entry at a place of the order
  at_place : (i p : ℕ) → slice_get (order_of (map fate_of w.progress)) i ≡ Some p
      → (x : Decided) × (slice_get k.own.entries i ≡ Some x) × (entry_of p (slice_get w.progress p) ≡ Some x)
  at_place i p h =
      let es = k.own.entries in
      let x = get_mapped (λ (e : Decided). e.number) es i p (subst (λ l. slice_get l i ≡ Some p) numbers_are h) in
      (x.0, x.1, subst (λ z. entry_of z (slice_get w.progress z) ≡ Some (x.0)) x.2 (k.own.order.sound (x.0) (get_member es i (x.0) x.1)))

  -- the verdict there
  verdict_there : (i p : ℕ) (x : Decided) (y : Verdict) → slice_get k.own.entries i ≡ Some x → x.number ≡ p → verdict_at a p (slice_get w.progress p) ≡ Some y
      → slice_get (run_verdicts (meaning_of setup a) (run_of setup w)) i ≡ Some y
  verdict_there i p x y h is said =
      let start = start_store setup.objects in
      let es = k.own.entries in
      let told = map_get (λ (e : Decided). what_at a w.progress e.number) es i x h in
      let what : what_at a w.progress x.number ≡ Some y = subst (λ n. what_at a w.progress n ≡ Some y) (sym is) said in
      let there : slice_get (map (λ z. Some z) (meaning.serial_verdicts (meaning_of setup a) start (numbers_of es))) i ≡ Some (Some y) =
      ap (λ l. slice_get l i) k.own.verdicts ∙ told ∙ ap Some what in
      let found = get_mapped (λ z. Some z) (meaning.serial_verdicts (meaning_of setup a) start (numbers_of es)) i (Some y) there in
      ap (λ l. slice_get (meaning.serial_verdicts (meaning_of setup a) start l) i) numbers_are ∙ found.1 ∙ found.2

  -- what the serial run leaves is the server's store
  left_is : run_store (meaning_of setup a) (run_of setup w) ≡ w.store
  left_is = ap (meaning.serial_store (meaning_of setup a) (start_store setup.objects)) numbers_are ∙ k.own.store

  pub serialises_from : Serialises (meaning_of setup a) (run_of setup w)
  serialises_from =
      let o = k.own in
      let ps = w.progress in
      record {
        admitted = let same = length-map ps fate_of in let few = k.base.few in omega arith;
        once = λ p. rw (fates_at ps p, numbers_are) (once_from ps o.entries p o.order);
        ascends = λ i j p q x y hi hj hp hq lt.
            let c = at_place i p hi in
            let d = at_place j q hj in
            let one = decided_when p (slice_get ps p) (c.0) x c.2 (sym (ap run.decided_at (fates_at ps p)) ∙ hp) in
            let two = decided_when q (slice_get ps q) (d.0) y d.2 (sym (ap run.decided_at (fates_at ps q)) ∙ hq) in
            elim (earlier_in o.entries i j (c.0) (d.0) o.order.rising o.apart lt c.1 d.1) [
              | inl early ↦ inl (omega arith)
              | inr same ↦ let first = same.0 in let then = same.1 in inr (omega arith, omega arith)
            ];
        rows = ap (parts_of setup.objects) (sym left_is);
        verdicts = λ i p r y hi h.
            let c = at_place i p hi in
            let told = released_said a p (slice_get ps p) r y (sym (ap run.released_at (fates_at ps p)) ∙ h) in
            verdict_there i p (c.0) y c.1 (entry_number p (slice_get ps p) (c.0) c.2) told.0;
        respects = λ i j p q r b y hi hj hp hq lt.
            let x = at_place i p hi in
            let z = at_place j q hj in
            let f = some_since (slice_get ps p) p (x.0) x.2 in
            let g = some_since (slice_get ps q) q (z.0) z.2 in
            let told = released_said a p (slice_get ps p) r y (sym (ap run.released_at (fates_at ps p)) ∙ hp) in
            let came = sym (ap run.admitted_at (fates_at ps q)) ∙ hq in
            place_before o.entries i j (x.0) (z.0) o.order.rising
            (entries_before w.events w.version (visible w.batches w.done) p q r b f.0 g.0 (x.0) (z.0) (k.base.consistent.each p f.0 f.1)
            (k.base.consistent.each q g.0 g.1) (k.base.consistent.pairs p q f.0 g.0 f.1 g.1)
            (sym (ap released_at f.1) ∙ told.1) (sym (ap admitted_at g.1) ∙ came) lt
            (sym (ap (entry_of p) f.1) ∙ x.2) (sym (ap (entry_of q) g.1) ∙ z.2))
            x.1 z.1;
      }

-- ---- quiet

pub record QuietParts (w : State) : Type 0 where
  pub passes : w.passes ≡ []
  pub up : w.up ≡ []
  pub held : w.held ≡ []
  pub down : w.down ≡ []
  pub acked : w.acked ≡ length (commands_in w.batches)

pub quiet_parts : (w : State) → is_quiet w ≡ true → QuietParts w
quiet_parts w h =
    let a = and_parts _ _ h in
    let b = and_parts _ _ a.0 in
    let c = and_parts _ _ b.0 in
    let d = and_parts _ _ c.0 in
    record {
      passes = nil_from_length w.passes (eqb-true _ _ d.0);
      up = nil_from_length w.up (eqb-true _ _ d.1);
      held = nil_from_length w.held (eqb-true _ _ c.1);
      down = nil_from_length w.down (eqb-true _ _ b.1);
      acked = eqb-true _ _ a.1;
    }

pub released_since : (a : Answers) (p : ℕ) (x : Option Progress) (z : Progress) → x ≡ Some z → pass_mark x ≡ 0 → up_mark x ≡ 0 → held_mark x ≡ 0
    → (e : Decided) × (r : ℕ) × (y : Verdict) × (entry_of p x ≡ Some e) × (run.released_at (shown x) ≡ Some (r, y)) × (verdict_at a p x ≡ Some y)
released_since a p None z h i j k = absurd (none-some z h)
released_since a p (Some (Slow x d v y r)) z h i j k = (_, r, y, refl, refl, refl)
released_since a p (Some (Fast x d v y)) z h i j k = (_, d, y, refl, refl, refl)
released_since a p (Some old) z h i j k = absurd (omega arith)

pub complete_from : (setup : Setup) (a : Answers) (w : State) → Kept setup a w → is_quiet w ≡ true → AllReleased (meaning_of setup a) (run_of setup w)
complete_from setup a w k quiet =
    let q = quiet_parts w quiet in
    let o = k.own in
    let ps = w.progress in
    let same = length-map ps fate_of in
    record {
      each = λ p within.
          let f = get_within ps p (omega arith) in
          let no_pass : pass_mark (slice_get ps p) ≡ 0 = sym (k.base.consistent.places.firsts p) ∙ ap (weight (in_first p)) q.passes in
          let no_up : up_mark (slice_get ps p) ≡ 0 = sym (k.base.consistent.places.ups p) ∙ ap (weight (in_up p)) q.up in
          let held = k.base.consistent.places.helds p in
          let none_held = ap (weight (in_held p)) q.held in
          let none_down = ap (weight (in_up p)) q.down in
          let none_last = ap (weight (in_last p)) q.passes in
          let out = released_since a p (slice_get ps p) f.0 f.1 no_pass no_up (omega arith) in
          let e = out.0 in
          let is : e.number ≡ p = entry_number p (slice_get ps p) e out.3 in
          let place = member_get e o.entries (o.order.complete e (subst (λ z. entry_of z (slice_get ps z) ≡ Some e) (sym is) out.3)) in
          let here : slice_get (numbers_of o.entries) (place.0) ≡ Some p =
          subst (λ n. slice_get (numbers_of o.entries) (place.0) ≡ Some n) is (map_get (λ (d : Decided). d.number) o.entries (place.0) e place.1) in (
            place.0,
            out.1,
            out.2,
            subst (λ l. slice_get l (place.0) ≡ Some p) (sym (numbers_are setup a w k)) here,
            subst (λ x. run.released_at x ≡ Some (out.1, out.2)) (sym (fates_at ps p)) out.4,
            verdict_there setup a w k (place.0) p e out.2 place.1 is out.5,
          );
    }

-- the switch sees the newest version then
pub newest_from : (w : State) → Consistent w → is_quiet w ≡ true → seen w ≡ w.version
newest_from w c quiet =
    let q = quiet_parts w quiet in
    let a = c.counts.acked_in in let b = c.counts.done_in in let d = c.counts.sent_in in let e = q.acked in
    let all : w.done ≡ length (commands_in w.batches) = omega arith in
    rw all (visible_all w.batches ∙ c.counts.versions)

-- ---- what the switch shows then

part_if : (there : Bool) (part : ObjectRows) (parts : List ObjectRows) (i : ℕ) (shown : ObjectRows)
    → slice_get (cond there (part ∷ parts) parts) i ≡ Some shown
    → ((there ≡ true) × (part ≡ shown)) ⊎ ((j : ℕ) × (slice_get parts j ≡ Some shown))
part_if true part parts zero shown h = inl (refl, same_Some part shown h)
part_if true part parts (suc i) shown h = inr (i, h)
part_if false part parts i shown h = inr (i, h)

-- each of the parts is that of an object whose number passes the test
part_of : (test : ℕ → Bool) (n : ℕ) (objects : List ObjectDecl) (store : Store) (i : ℕ) (shown : ObjectRows)
    → slice_get (parts_where test n objects store) i ≡ Some shown
    → (test shown.object ≡ true) × (shown.rows ≡ rows_of (object_at store shown.object))
part_of test n [] store i shown h = absurd (none-some shown h)
part_of test n (object ∷ objects) store i shown h =
    let part : ObjectRows = record { object = n; rows = rows_of (object_at store n) } in
    elim (part_if (test n) part (parts_where test (suc n) objects store) i shown h) [
      | inl here ↦ (
        subst (λ (x : ObjectRows). test x.object ≡ true) here.1 here.0,
        subst (λ (x : ObjectRows). x.rows ≡ rows_of (object_at store x.object)) here.1 refl,
      )
      | inr later ↦ part_of test (suc n) objects store later.0 shown later.1
    ]

pub shown_from : (setup : Setup) (a : Answers) (w : State) → Kept setup a w → is_quiet w ≡ true
    → ShowsWhatIsLeft (meaning_of setup a) (run_of setup w)
shown_from setup a w k quiet i shown here =
    let o = k.own in
    let newest = newest_from w k.base.consistent quiet in
    let part = part_of setup.replicated 0 setup.objects (seen_store w) i shown here in
    let all : upto (seen w) o.entries ≡ o.entries =
    upto_all (seen w) o.entries (λ e m. let low = entry_fact w o.entries e k.base.consistent o.order m in omega arith) in
    let begun : object_at (seen_store w) shown.object ≡ object_at (left_by (meaning_of setup a) (start_store setup.objects) o.entries) shown.object =
    o.begun (seen w) (omega arith) shown.object part.0
    ∙ ap (λ es. object_at (left_by (meaning_of setup a) (start_store setup.objects) es) shown.object) all in
    part.1 ∙ ap rows_of (begun ∙ ap (λ s. object_at s shown.object) (o.store ∙ sym (left_is setup a w k)))
