-- In every state of a run the order is a serial run of whole packets, which leaves the store of the server.
use Rattle.std.proofs.Common.{◌≡◌, ℕ, ◌+◌, ◌<◌, ◌≤◌, true, ltb, leb, List, [], ◌∷◌, ◌++◌, ◌⊎◌, Option, Some, None, inl, inr, refl, sym, ◌∙◌, ap, subst, arith, length, set}
use Rattle.std.specs.Prelude.{slice_get}
use Rattle.std.proofs.lemmas.Bool.{ltb-true, leb-true, cases_lt, cases_eq, lt-leb}
use Rattle.std.proofs.lemmas.Option.{same_Some, none-some, slice_get_within}
use Rattle.std.proofs.lemmas.List.{append-nil, get_or_append_left, get_or_push}
use Rattle.std.proofs.lemmas.List.Elements.{filter-append}
use Rattle.packet_fields.specs.declared.verdict.Verdict.{Verdict}
use Rattle.state_store.specs.Kept.{IsKept}
use Rattle.state_store.specs.Store.{Store, object_at}
use Rattle.writeback_table.specs.Batches.{changed_by}
use Rattle.replay_state.specs.Answers.{Answers, Setup, meaning_of}
use Rattle.output_commit.specs.Batches.{Batch, visible}
use Rattle.replay_state.specs.State.{State, Progress, Entered, Up, Held, Slow, Fast, Pass, store_at}
use Rattle.replay_state.specs.Step.{finished, decided}
use Rattle.replay_state.specs.SoundAnswers.{IsAlike, IsSoundAt, AreSound}
use Rattle.run_model.specs.declared.serial.Decided.{Decided}
use Rattle.replay_state.proofs.Words.{entry_of, verdict_at}
use Rattle.run_model.specs.Members.{Member}
use Rattle.run_model.proofs.RisingEntries.{Before}
use Rattle.run_model.proofs.Members.{get_member}
use Rattle.replay_state.proofs.Words.{upto, beyond}
use Rattle.replay_state.proofs.Lists.{map_agree, member_push}
use Rattle.replay_state.proofs.Order.{rising_mid, rising_split, member_mid, member_mid_is, member_mid_old, member_left, member_filter, upto_all}
use Rattle.replay_state.proofs.SortedFates.{IsOrder}
use Rattle.replay_state.proofs.Serial.{left_by, said_by, told_by, left_by_push, left_by_mid, said_by_mid, said_by_push, upto_mid}
use Rattle.replay_state.proofs.Fates.{FateOk, at_first, at_up}
use Rattle.replay_state.proofs.Effects.{Consistent, shown_le}
use Rattle.replay_state.proofs.Steps.{finished_at, run_at}
use Rattle.lemmas.proofs.Lists.{get_set_other, get_set_same}

-- the order gains e between l and r, where a packet that was not decided now is
pub order_gain : (fates more : List Progress) (l r : List Decided) (e : Decided) → IsOrder fates (l ++ r)
    → entry_of e.number (slice_get fates e.number) ≡ None → entry_of e.number (slice_get more e.number) ≡ Some e
    → ((n : ℕ) → (n ≡ e.number → ⊥) → slice_get more n ≡ slice_get fates n)
    → ((x : Decided) → Member x l → Before x e) → ((y : Decided) → Member y r → Before e y) → IsOrder more (l ++ e ∷ r)
order_gain fates more l r e o undecided now same below above = record {
  rising = rising_mid e l r o.rising below above;
  sound = λ x m. elim (member_mid x e l r m) [
    | inl p ↦ subst (λ z. entry_of z.number (slice_get more z.number) ≡ Some z) p now
    | inr old ↦ elim (cases_eq x.number e.number) [
      | inl q ↦ let before = o.sound x old in
          absurd (none-some x (sym undecided ∙ subst (λ z. entry_of z (slice_get fates z) ≡ Some x) q before))
      | inr d ↦ ap (entry_of x.number) (same x.number d) ∙ o.sound x old
    ]
  ];
  complete = λ x h. elim (cases_eq x.number e.number) [
    | inl q ↦ member_mid_is x e l r (same_Some _ _ (sym now ∙ subst (λ z. entry_of z (slice_get more z) ≡ Some x) q h))
    | inr d ↦ member_mid_old x e l r (o.complete x (sym (ap (entry_of x.number) (same x.number d)) ∙ h))
  ];
}

pub order_same : (fates more : List Progress) (es : List Decided) → IsOrder fates es → ((n : ℕ) → entry_of n (slice_get more n) ≡ entry_of n (slice_get fates n)) → IsOrder more es
order_same fates more es o same = record {
  rising = o.rising;
  sound = λ x m. same x.number ∙ o.sound x m;
  complete = λ x h. o.complete x (sym (same x.number) ∙ h);
}

-- the verdicts of the others stay, where a packet that was not decided now is
abbrev pub what_at : Answers → List Progress → ℕ → Option Verdict
what_at a fates n = verdict_at a n (slice_get fates n)

pub told_gain : (a : Answers) (fates more : List Progress) (n : ℕ) (es : List Decided) → IsOrder fates es → entry_of n (slice_get fates n) ≡ None
    → ((m : ℕ) → (m ≡ n → ⊥) → slice_get more m ≡ slice_get fates m) → told_by (what_at a fates) es ≡ told_by (what_at a more) es
told_gain a fates more n es o undecided same =
    map_agree (λ e. what_at a fates e.number) (λ e. what_at a more e.number) es (λ x m. elim (cases_eq x.number n) [
      | inl q ↦ absurd (none-some x (sym undecided ∙ subst (λ z. entry_of z (slice_get fates z) ≡ Some x) q (o.sound x m)))
      | inr d ↦ ap (verdict_at a x.number) (sym (same x.number d))
    ])

-- what the fates say of the entries
pub entry_ok : (now version most n : ℕ) (f : Option Progress) (e : Decided) → ((g : Progress) → f ≡ Some g → FateOk now version most g) → most ≤ version → entry_of n f ≡ Some e → e.version ≤ version
entry_ok now version most n (Some (Held a d v y)) e ok le h = let is = ap (λ z. z.version) (same_Some _ _ h) in let o = ok _ refl in omega arith
entry_ok now version most n (Some (Slow a d v y r)) e ok le h = let is = ap (λ z. z.version) (same_Some _ _ h) in let o = ok _ refl in omega arith
entry_ok now version most n (Some (Fast a d v y)) e ok le h = let is = ap (λ z. z.version) (same_Some _ _ h) in let o = ok _ refl in omega arith
entry_ok now version most n f e ok le h = cc

pub entry_fact : (w : State) (es : List Decided) (e : Decided) → Consistent w → IsOrder w.progress es → Member e es → e.version ≤ w.version
entry_fact w es e c o m = entry_ok w.events w.version (visible w.batches w.done) e.number (slice_get w.progress e.number) e (c.each e.number) (shown_le w w.done c) (o.sound e m)

pub upto_push_late : (v : ℕ) (l : List Decided) (e : Decided) → v < e.version → upto v (l ++ e ∷ []) ≡ upto v l
upto_push_late v l e h =
    let one = filter-append (λ x. leb x.version v) l (e ∷ []) in
    let out = lt-leb e.version v h in
    rw (one, out) (append-nil (upto v l))

abbrev pub Gains : List Decided → Decided → List Decided → Type 0
Gains es e more = (x : Decided) → Member x more → (e ≡ x) ⊎ Member x es

pub gains_push : (es : List Decided) (e : Decided) → Gains es e (es ++ e ∷ [])
gains_push es e x m = member_push es e x m

-- what holds of each entry and of the new one
gain_all : (P : Decided → Type 0) (es more : List Decided) (e : Decided) → ((x : Decided) → Member x es → P x) → P e → Gains es e more
    → (x : Decided) → Member x more → P x
gain_all P es more e all here gains x m = elim (gains x m) [ inl p ↦ subst P p here | inr old ↦ all x old ]

-- no two entries are of one event
abbrev pub Apart : List Decided → Type 0
Apart es = (x y : Decided) → Member x es → Member y es → x.event ≡ y.event → x.number ≡ y.number

pub apart_gain : (now : ℕ) (es more : List Decided) (e : Decided) → Apart es → ((x : Decided) → Member x es → x.event < now) → e.event ≡ now → Gains es e more
    → Apart more
apart_gain now es more e apart fresh is gains x y m n same = elim (gains x m) [
  | inl p ↦ elim (gains y n) [
    | inl q ↦ ap (λ (z : Decided). z.number) (sym p ∙ q)
    | inr old ↦ let low = fresh y old in let here = ap (λ (z : Decided). z.event) p in absurd (omega arith)
  ]
  | inr old ↦ elim (gains y n) [
    | inl q ↦ let low = fresh x old in let here = ap (λ (z : Decided). z.event) q in absurd (omega arith)
    | inr older ↦ apart x y old older same
  ]
]

-- The order of the entries, which lead from this start to what the server has now, and its versions and packets.
pub record Ordered (setup : Setup) (a : Answers) (start now : Store) (version : ℕ) (stores : List Store) (events : ℕ) (fates : List Progress) : Type 0 where
  pub entries : List Decided
  pub order : IsOrder fates entries
  pub store : left_by (meaning_of setup a) start entries ≡ now
  pub verdicts : said_by (meaning_of setup a) start entries ≡ told_by (what_at a fates) entries
  pub begun : (v : ℕ) → v ≤ version → IsAlike setup.replicated (store_at stores v) (left_by (meaning_of setup a) start (upto v entries))
  pub kept : (v : ℕ) → v ≤ version → IsKept setup.objects (store_at stores v)
  pub here : (e : Decided) → Member e entries → e.number < setup.total
  pub past : (e : Decided) → Member e entries → e.event ≤ events
  pub apart : Apart entries

abbrev pub InOrder : Setup → Answers → Store → State → Type 0
InOrder setup a start w = Ordered setup a start w.store w.version w.stores w.events w.progress

-- nothing was decided at this event yet
abbrev pub Fresh : State → List Decided → Type 0
Fresh w es = (e : Decided) → Member e es → e.event < w.events

abbrev pub Few : Setup → State → Type 0
Few setup w = length w.progress ≤ setup.total

-- the entry of a packet that the server runs, behind all others
abbrev pub run_entry : State → ℕ → ℕ → Decided
run_entry w p v = record { number = p; version = v; event = w.events }

pub order_run : (w : State) (j p v : ℕ) (es : List Decided) → Consistent w → IsOrder w.progress es → Fresh w es → slice_get w.up j ≡ Some p → w.version ≤ v
    → IsOrder (set w.progress p (decided w.events v w.store (slice_get w.progress p))) (es ++ run_entry w p v ∷ [])
order_run w j p v es c o fresh g later =
    let fate = at_up w j p c.places g in
    let f : Progress = Held fate.0 w.events v w.store in
    let new : decided w.events v w.store (slice_get w.progress p) ≡ f = ap (decided w.events v w.store) fate.1 in
    rw new (order_gain w.progress (set w.progress p f) es [] (run_entry w p v)
    (rw (append-nil es) o)
    (ap (entry_of p) fate.1)
    (ap (entry_of p) (get_set_same w.progress p (Up fate.0) f fate.1))
    (λ n d. get_set_other w.progress p n f d)
    (λ x m. let fact = entry_fact w es x c o m in let early = fresh x m in record { version = omega arith; event = λ h. omega arith; number = λ h k. absurd (omega arith) })
    (λ x m. absurd m))

module _ (setup : Setup) (a : Answers) (start : Store) (law : AreSound setup a) (first : IsKept setup.objects start) where
  pub left_kept : (s : Store) (es : List Decided) → IsKept setup.objects s → ((e : Decided) → Member e es → e.number < setup.total) → IsKept setup.objects (left_by (meaning_of setup a) s es)
  left_kept s [] kept here = kept
  left_kept s (e ∷ es) kept here =
      let r = law.each e.number s (here e (inl refl)) kept in
      left_kept (a.after s e.number) es r.kept (λ x m. here x (inr m))

  pub store_kept : (w : State) → InOrder setup a start w → IsKept setup.objects w.store
  store_kept w o = subst (IsKept setup.objects) o.store (left_kept start o.entries first o.here)

  pub up_within : (w : State) (j p : ℕ) → Consistent w → Few setup w → slice_get w.up j ≡ Some p → p < setup.total
  up_within w j p c few g =
      let fate = at_up w j p c.places g in
      let within = slice_get_within w.progress p (Up fate.0) fate.1 in
      omega arith

  -- the verdicts, with that of the packet that the server runs
  pub said_run : (w : State) (j p v : ℕ) (es : List Decided) → Consistent w → IsOrder w.progress es → slice_get w.up j ≡ Some p → left_by (meaning_of setup a) start es ≡ w.store
      → said_by (meaning_of setup a) start es ≡ told_by (what_at a w.progress) es
      → said_by (meaning_of setup a) start (es ++ run_entry w p v ∷ []) ≡ told_by (what_at a (set w.progress p (decided w.events v w.store (slice_get w.progress p)))) (es ++ run_entry w p v ∷ [])
  said_run w j p v es c o g store old =
      let fate = at_up w j p c.places g in
      let f : Progress = Held fate.0 w.events v w.store in
      let new : decided w.events v w.store (slice_get w.progress p) ≡ f = ap (decided w.events v w.store) fate.1 in
      let more = set w.progress p f in
      let there : slice_get more p ≡ Some f = get_set_same w.progress p (Up fate.0) f fate.1 in
      let others = told_gain a w.progress more p es o (ap (entry_of p) fate.1) (λ n d. get_set_other w.progress p n f d) in
      let says : Some (a.post (left_by (meaning_of setup a) start es) p) ≡ what_at a more p = ap (λ s. Some (a.post s p)) store ∙ sym (ap (verdict_at a p) there) in
      rw new (said_by_push (meaning_of setup a) (what_at a more) start es (run_entry w p v) (old ∙ others) says)

  -- a run with no changes leaves the replicated objects
  pub unseen_alike : (store : Store) (p : ℕ) → IsSoundAt setup a store p → a.changes store p ≡ [] → IsAlike setup.replicated (a.after store p) store
  unseen_alike store p r none o rep = r.changed o rep ∙ ap (changed_by o (object_at store o)) none

  -- the store of a version that is not before that of the run
  run_newest : (w : State) (p v u : ℕ) → Consistent w → (o : InOrder setup a start w) → w.version ≤ v → v ≤ u
      → left_by (meaning_of setup a) start (upto u (o.entries ++ run_entry w p v ∷ [])) ≡ a.after w.store p
  run_newest w p v u c o later last =
      let es = o.entries in
      let e = run_entry w p v in
      let all = upto_all u (es ++ e ∷ []) (λ x m. elim (gains_push es e x m) [
        | inl q ↦ subst (λ (z : Decided). z.version ≤ u) q last
        | inr old ↦ let fact = entry_fact w es x c o.order old in omega arith
      ]) in
      ap (left_by (meaning_of setup a) start) all ∙ left_by_push (meaning_of setup a) start es e ∙ ap (λ s. a.after s p) o.store

  -- the server runs a packet, and has this version and these stores then
  in_order_run : (w : State) (j p v : ℕ) (stores : List Store) → Consistent w → Few setup w → (o : InOrder setup a start w) → Fresh w o.entries
      → slice_get w.up j ≡ Some p → w.version ≤ v
      → ((u : ℕ) → u ≤ v → IsAlike setup.replicated (store_at stores u) (left_by (meaning_of setup a) start (upto u (o.entries ++ run_entry w p v ∷ []))))
      → ((u : ℕ) → u ≤ v → IsKept setup.objects (store_at stores u))
      → Ordered setup a start (a.after w.store p) v stores w.events (set w.progress p (decided w.events v w.store (slice_get w.progress p)))
  in_order_run w j p v stores c few o fresh g later begun kept =
      let es = o.entries in
      let e = run_entry w p v in
      record {
        entries = es ++ e ∷ [];
        order = order_run w j p v es c o.order fresh g later;
        store = left_by_push (meaning_of setup a) start es e ∙ ap (λ s. a.after s p) o.store;
        verdicts = said_run w j p v es c o.order g o.store o.verdicts;
        begun = begun;
        kept = kept;
        here = gain_all (λ z. z.number < setup.total) es (es ++ e ∷ []) e o.here (up_within w j p c few g) (gains_push es e);
        past = gain_all (λ z. z.event ≤ w.events) es (es ++ e ∷ []) e o.past (omega arith) (gains_push es e);
        apart = apart_gain w.events es (es ++ e ∷ []) e o.apart fresh refl (gains_push es e);
      }

  pub in_order_unseen : (w : State) (j p : ℕ) → Consistent w → Few setup w → (o : InOrder setup a start w) → Fresh w o.entries → slice_get w.up j ≡ Some p
      → a.changes w.store p ≡ []
      → InOrder setup a start (run_at a w j p w.version w.stores w.batches)
  in_order_unseen w j p c few o fresh g none =
      let es = o.entries in
      let e = run_entry w p w.version in
      let r = law.each p w.store (up_within w j p c few g) (store_kept w o) in
      in_order_run w j p w.version w.stores c few o fresh g (omega arith)
      (λ v h. elim (cases_lt v w.version) [
        | inl early ↦ subst (λ l. IsAlike setup.replicated (store_at w.stores v) (left_by (meaning_of setup a) start l)) (sym (upto_push_late v es e early)) (o.begun v h)
        | inr last ↦
            let before = upto_all v es (λ x m. let fact = entry_fact w es x c o.order m in omega arith) in
            λ n rep. o.begun v h n rep ∙ ap (λ s. object_at s n) (ap (left_by (meaning_of setup a) start) before ∙ o.store)
            ∙ sym (unseen_alike w.store p r none n rep) ∙ ap (λ s. object_at s n) (sym (run_newest w p w.version v c o (omega arith) last))
      ])
      o.kept

  pub in_order_seen : (w : State) (j p : ℕ) (batches : List Batch) → Consistent w → Few setup w → (o : InOrder setup a start w) → Fresh w o.entries → slice_get w.up j ≡ Some p
      → InOrder setup a start (run_at a w j p (w.version + 1) (w.stores ++ a.after w.store p ∷ []) batches)
  in_order_seen w j p batches c few o fresh g =
      let es = o.entries in
      let e = run_entry w p (w.version + 1) in
      let r = law.each p w.store (up_within w j p c few g) (store_kept w o) in
      let stores = w.stores ++ a.after w.store p ∷ [] in
      let count = c.counts.all in
      in_order_run w j p (w.version + 1) stores c few o fresh g (omega arith)
      (λ v h. elim (cases_lt v (w.version + 1)) [
        | inl early ↦
            let there = get_or_append_left w.stores (a.after w.store p ∷ []) [] v (omega arith) in
            subst (λ l. IsAlike setup.replicated (store_at stores v) (left_by (meaning_of setup a) start l)) (sym (upto_push_late v es e early))
            (subst (λ x. IsAlike setup.replicated x (left_by (meaning_of setup a) start (upto v es))) (sym there) (o.begun v (omega arith)))
        | inr last ↦
            let there = get_or_push w.stores (a.after w.store p) [] v (omega arith) in
            let same : store_at stores v ≡ left_by (meaning_of setup a) start (upto v (es ++ e ∷ [])) = there ∙ sym (run_newest w p (w.version + 1) v c o (omega arith) last) in
            λ n t. ap (λ x. object_at x n) same
      ])
      (λ v h. elim (cases_lt v (w.version + 1)) [
        | inl early ↦ subst (IsKept setup.objects) (sym (get_or_append_left w.stores (a.after w.store p ∷ []) [] v (omega arith))) (o.kept v (omega arith))
        | inr last ↦ subst (IsKept setup.objects) (sym (get_or_push w.stores (a.after w.store p) [] v (omega arith))) r.kept
      ])

  -- a fast packet stands behind the packets of the version over which it entered
  pub in_order_fast : (w : State) (j : ℕ) (x : Pass) (y : Verdict) → Consistent w → Few setup w → (o : InOrder setup a start w) → Fresh w o.entries → slice_get w.passes j ≡ Some x → x.pre ≡ true
      → a.pre (store_at w.stores x.version) x.number ≡ Some y → InOrder setup a start (finished_at w j x y)
  in_order_fast w j x y c few o fresh g t quick =
      let es = o.entries in
      let fate = at_first w j x c.places g t in
      let v0 = x.version in
      let n = x.number in
      let seen = store_at w.stores v0 in
      let old : Progress = Entered fate.0 fate.1 in
      let is_version : fate.1 ≡ v0 = c.needs.firsts x fate.0 fate.1 (get_member w.passes j x g) t fate.2 in
      let f : Progress = Fast fate.0 w.events fate.1 y in
      let new : finished w.events y (slice_get w.progress n) ≡ f = ap (finished w.events y) fate.2 in
      let e : Decided = record { number = n; version = v0; event = w.events } in
      let l = upto v0 es in
      let r = beyond v0 es in
      let more = set w.progress n f in
      let split : es ≡ l ++ r = rising_split v0 es o.order.rising in
      let ok = c.each n old fate.2 in
      let below = shown_le w w.done c in
      let most : v0 ≤ w.version = omega arith in
      let within : n < setup.total = let k = slice_get_within w.progress n old fate.2 in omega arith in
      let mid = left_by (meaning_of setup a) start l in
      let mid_kept : IsKept setup.objects mid = left_kept start l first (λ z m. o.here z (member_filter (λ (q : Decided). leb q.version v0) z es m).0) in
      let agree = o.begun v0 most in
      let at = (law.each n seen within (o.kept v0 most)).fast y mid quick mid_kept agree in
      let stays : a.after mid n ≡ mid = at.0 in
      let early : (z : Decided) → Member z l → z.version ≤ v0 = λ z m. leb-true z.version v0 (member_filter (λ (q : Decided). leb q.version v0) z es m).1 in
      let late : (z : Decided) → Member z r → v0 < z.version = λ z m. ltb-true v0 z.version (member_filter (λ (q : Decided). ltb v0 q.version) z es m).1 in
      let ordered : IsOrder w.progress (l ++ r) = subst (λ z. IsOrder w.progress z) split o.order in
      let fresh_lr : (z : Decided) → Member z (l ++ r) → z.event < w.events = subst (λ q. (z : Decided) → Member z q → z.event < w.events) split fresh in
      let gains : Gains es e (l ++ e ∷ r) = λ z m. elim (member_mid z e l r m) [ inl q ↦ inl q | inr before ↦ inr (subst (λ q. Member z q) (sym split) before) ] in
      let there : slice_get more n ≡ Some f = get_set_same w.progress n old f fate.2 in
      let others = told_gain a w.progress more n (l ++ r) ordered (ap (entry_of n) fate.2) (λ m d. get_set_other w.progress n m f d) in
      let says : Some (a.post mid n) ≡ what_at a more n = ap Some at.1 ∙ sym (ap (verdict_at a n) there) in
      record {
        entries = l ++ e ∷ r;
        order = rw new (order_gain w.progress more l r e ordered
            (ap (entry_of n) fate.2)
            (ap (entry_of n) there ∙ ap (λ k. Some (record { number = n; version = k; event = w.events })) is_version)
            (λ m d. get_set_other w.progress n m f d)
            (λ z m. let h = early z m in let before = fresh_lr z (member_left z l r m) in
            record { version = h; event = λ k. omega arith; number = λ k q. absurd (omega arith) })
            (λ z m. let h = late z m in record { version = omega arith; event = λ k. absurd (omega arith); number = λ k q. absurd (omega arith) }));
        store = left_by_mid (meaning_of setup a) start l r e stays ∙ ap (left_by (meaning_of setup a) start) (sym split) ∙ o.store;
        verdicts = rw new (said_by_mid (meaning_of setup a) (what_at a more) start l r e (subst (λ z. said_by (meaning_of setup a) start z ≡ told_by (what_at a w.progress) z) split o.verdicts ∙ others) stays says);
        begun = λ v h. subst (λ z. IsAlike setup.replicated (store_at w.stores v) z) (sym (upto_mid (meaning_of setup a) start v l r e early stays))
            (subst (λ z. IsAlike setup.replicated (store_at w.stores v) (left_by (meaning_of setup a) start (upto v z))) split (o.begun v h));
        kept = o.kept;
        here = gain_all (λ z. z.number < setup.total) es (l ++ e ∷ r) e o.here within gains;
        past = gain_all (λ z. z.event ≤ w.events) es (l ++ e ∷ r) e o.past (omega arith) gains;
        apart = apart_gain w.events es (l ++ e ∷ r) e o.apart fresh refl gains;
      }

  -- the same order, where events passed or packets changed that neither decide nor tell another verdict
  unfoldable pub order_stays : (now : Store) (version : ℕ) (stores : List Store) (events later : ℕ) (fates more : List Progress) → events ≤ later
      → ((n : ℕ) → entry_of n (slice_get more n) ≡ entry_of n (slice_get fates n)) → ((n : ℕ) → what_at a more n ≡ what_at a fates n)
      → Ordered setup a start now version stores events fates → Ordered setup a start now version stores later more
  order_stays now version stores events later fates more low same told o = record {
    entries = o.entries;
    order = order_same fates more o.entries o.order same;
    store = o.store;
    verdicts = o.verdicts ∙ sym (map_agree (λ e. what_at a more e.number) (λ e. what_at a fates e.number) o.entries (λ e m. told e.number));
    begun = o.begun;
    kept = o.kept;
    here = o.here;
    past = λ e m. let k = o.past e m in omega arith;
    apart = o.apart;
  }
