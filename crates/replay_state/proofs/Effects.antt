-- Every effect keeps what the lists and the packets say.
use Rattle.std.proofs.Common.{◌≡◌, ℕ, ◌+◌, ◌-◌, ◌*◌, ◌<◌, ◌≤◌, Bool, true, false, List, [], ◌∷◌, ◌++◌, Some, inl, inr, refl, sym, ◌∙◌, ap, subst, arith, length, set}
use Rattle.std.specs.Prelude.{slice_get, remove}
use Rattle.std.proofs.lemmas.Option.{same_Some, none-some}
use Rattle.packet_fields.specs.declared.verdict.Verdict.{Verdict}
use Rattle.state_store.specs.Store.{Store}
use Rattle.writeback_table.specs.declared.command.Update.{Update}
use Rattle.replay_state.specs.Answers.{Answers}
use Rattle.output_commit.specs.Batches.{Batch, commands_in, visible}
use Rattle.replay_state.specs.State.{State, Progress, Entered, Up, Held, Slow, Fast, Pass}
use Rattle.replay_state.specs.Step.{tick, idled, pass_of, finished, went_up, released, decided}
use Rattle.run_model.specs.Members.{Member}
use Rattle.run_model.proofs.Members.{get_member}
use Rattle.replay_state.proofs.Words.{admitted_at, released_at, version_at}
use Rattle.replay_state.proofs.Lists.{is_self, set_cases, member_remove, member_push, member_set, weight, weight_push, weight_remove, weight_change, is, mark_set, mark_push}
use Rattle.replay_state.proofs.Counts.{AreCounted}
use Rattle.replay_state.proofs.Visible.{visible_total}
use Rattle.replay_state.proofs.Fates.{pass_mark, up_mark, held_mark, in_first, in_last, in_up, in_held, Places, at_first, at_last, at_up, Needing, Needs, FateOk, fate_more, EachConsistent, each_push, each_set, each_weaker, Pairs, Fits, pairs_push, pairs_set, fits_late, fits_now}
use Rattle.replay_state.proofs.Steps.{let_in, let_down, finished_at, up_at, out_at, moved_at, run_at, go_at, sent_one, applied_one, acked_one, counts_sent}
use Rattle.lemmas.proofs.Lists.{get_before_pushed, get_past, get_set_same}
use Rattle.lemmas.proofs.Tests.{true_not_false}
use Rattle.output_commit.proofs.MergedBatches.{is_merged}
use Rattle.output_commit.proofs.VisibleVersions.{visible_more}

pub record Consistent (w : State) : Type 0 where
  pub counts : AreCounted w
  pub places : Places w
  pub needs : Needs w
  pub each : EachConsistent w
  pub pairs : Pairs w.progress

-- what is visible is.batches at most the version
pub shown_le : (w : State) (n : ℕ) → Consistent w → visible w.batches n ≤ w.version
shown_le w n c = let a = visible_total (w.batches) n in let b = c.counts.versions in omega arith

pub member_weight : {X : Type 0} (f : X → ℕ) (xs : List X) (x : X) → Member x xs → f x ≤ weight f xs
member_weight f [] x m = absurd m
member_weight f (y ∷ ys) x (inl e) = let s = ap f e in omega arith
member_weight f (y ∷ ys) x (inr m) = let r = member_weight f ys x m in omega arith

-- no first pass is that of a packet that isn't admitted
pub no_first : (w : State) → Consistent w → (z : Pass) → Member z w.passes → z.pre ≡ true → z.number ≡ length w.progress → ⊥
no_first w c z m t e =
    let r = member_weight (in_first z.number) w.passes z m in
    let one : in_first z.number z ≡ 1 = rw (t, is_self z.number) refl in
    let u = c.places.firsts z.number in
    let none = ap pass_mark (get_past w.progress) in
    let there : pass_mark (slice_get w.progress z.number) ≡ 0 = rw e none in
    omega arith

-- the versions of what is on its way, where a pass ends and its packet is neither entered nor held any more
needs_ended : (w : State) (j k : ℕ) (o f : Progress) → Consistent w → slice_get w.progress k ≡ Some o → pass_mark (Some f) ≡ 0 → held_mark (Some f) ≡ 0
    → Needing (remove w.passes j) w.held w.down (set w.progress k f) (visible w.batches w.acked)
needs_ended w j k o f c there not_first not_held = record {
  firsts = λ z a v m t h. c.needs.firsts z a v (member_remove w.passes j z m) t
      (was z.number (Entered a v) (λ is. let one = ap (λ q. pass_mark (Some q)) is in omega arith) h);
  helds = λ p need a d v y m h. c.needs.helds p need a d v y m (was p (Held a d v y) (no_longer a d v y) h);
  downs = λ p a d v y m h. c.needs.downs p a d v y m (was p (Held a d v y) (no_longer a d v y) h);
  lasts = λ z a d v y m t h. c.needs.lasts z a d v y (member_remove w.passes j z m) t (was z.number (Held a d v y) (no_longer a d v y) h);
}
  where
    was : (p : ℕ) (q : Progress) → (f ≡ q → ⊥) → slice_get (set w.progress k f) p ≡ Some q → slice_get w.progress p ≡ Some q
    was p q other h = elim (set_cases w.progress k p o f q there h) [ inl e ↦ absurd (other e.1) | inr old ↦ old ]

    no_longer : (a d v : ℕ) (y : Store) → f ≡ Held a d v y → ⊥
    no_longer a d v y is = let one = ap (λ q. held_mark (Some q)) is in omega arith

pub consistent_tick : (w : State) → Consistent w → Consistent (tick w)
consistent_tick w c = record {
  counts = c.counts;
  places = c.places;
  needs = c.needs;
  each = each_weaker (FateOk w.events w.version (visible w.batches w.done)) (FateOk (w.events + 1) w.version (visible w.batches w.done)) w.progress (λ f. fate_more _ _ _ _ _ _ f (omega arith) (omega arith) (omega arith)) c.each;
  pairs = c.pairs;
}

pub consistent_idled : (w : State) → Consistent w → Consistent (idled w)
consistent_idled w c = record { counts = c.counts; places = c.places; needs = c.needs; each = c.each; pairs = c.pairs }

pub consistent_sent : (w : State) (fits : List Update → Bool) → w.sent < length (commands_in w.batches) → Consistent w → Consistent (sent_one w fits)
consistent_sent w fits h c =
    let m = is_merged fits w.sent w.batches in
    let done = m.shows w.done c.counts.done_in in
    let acked = m.shows w.acked (let a = c.counts.acked_in in let b = c.counts.done_in in omega arith) in
    record {
      counts = counts_sent w fits h c.counts;
      places = c.places;
      needs = subst (Needing w.passes w.held w.down w.progress) (sym acked) c.needs;
      each = rw done c.each;
      pairs = c.pairs;
    }

pub consistent_applied : (w : State) → w.done < w.sent → Consistent w → Consistent (applied_one w)
consistent_applied w h c =
    let more = visible_more (w.batches) w.done (w.done + 1) (omega arith) in
    record {
      counts = record { versions = c.counts.versions; all = c.counts.all; sent_in = c.counts.sent_in; done_in = omega arith; acked_in = let a = c.counts.acked_in in omega arith };
      places = c.places;
      needs = c.needs;
      each = each_weaker (FateOk w.events w.version (visible w.batches w.done)) (FateOk w.events w.version (visible w.batches (w.done + 1))) w.progress (λ f. fate_more _ _ _ _ _ _ f (omega arith) (omega arith) more) c.each;
      pairs = c.pairs;
    }

pub consistent_acked : (w : State) → w.acked < w.done → Consistent w → Consistent (acked_one w)
consistent_acked w h c =
    let more = visible_more (w.batches) w.acked (w.acked + 1) (omega arith) in
    record {
      counts = record { versions = c.counts.versions; all = c.counts.all; sent_in = c.counts.sent_in; done_in = c.counts.done_in; acked_in = omega arith };
      places = c.places;
      needs = record {
        firsts = c.needs.firsts;
        helds = c.needs.helds;
        downs = λ p a d v y m g. let l = c.needs.downs p a d v y m g in omega arith;
        lasts = λ x a d v y m t g. let l = c.needs.lasts x a d v y m t g in omega arith;
      };
      each = c.each;
      pairs = c.pairs;
    }

pub consistent_moved : (w : State) (j : ℕ) (x : Pass) → slice_get w.passes j ≡ Some x → Consistent w → Consistent (moved_at w j x)
consistent_moved w j x g c =
    let y : Pass = record x { left = x.left - 1 } in
    record {
      counts = c.counts;
      places = record {
        firsts = λ p. let r = weight_change (in_first p) w.passes j x y g in let u = c.places.firsts p in omega arith;
        ups = c.places.ups;
        helds = λ p. let r = weight_change (in_last p) w.passes j x y g in let u = c.places.helds p in omega arith;
      };
      needs = record {
        firsts = λ z a v m t h. elim (member_set w.passes j y z m) [
          | inl e ↦ c.needs.firsts x a v (get_member w.passes j x g) (ap (λ q. q.pre) e ∙ t) (subst (λ q. slice_get w.progress q ≡ Some (Entered a v)) (sym (ap (λ q. q.number) e)) h) ∙ ap (λ q. q.version) e
          | inr old ↦ c.needs.firsts z a v old t h
        ];
        helds = c.needs.helds;
        downs = c.needs.downs;
        lasts = λ z a d v u m t h. elim (member_set w.passes j y z m) [
          | inl e ↦ c.needs.lasts x a d v u (get_member w.passes j x g) (ap (λ q. q.pre) e ∙ t) (subst (λ q. slice_get w.progress q ≡ Some (Held a d v u)) (sym (ap (λ q. q.number) e)) h)
          | inr old ↦ c.needs.lasts z a d v u old t h
        ];
      };
      each = c.each;
      pairs = c.pairs;
    }

pub consistent_let_in : (w : State) (stages : ℕ) → Consistent w → Consistent (let_in w stages)
consistent_let_in w stages c =
    let v = visible w.batches w.done in
    let n = length w.progress in
    let f : Progress = Entered w.events v in
    let x : Pass = pass_of w true n stages in
    record {
      counts = c.counts;
      places = record {
        firsts = λ p. let m = mark_push pass_mark w.progress p f refl in let r = weight_push (in_first p) w.passes x in let u = c.places.firsts p in omega arith;
        ups = λ p. let m = mark_push up_mark w.progress p f refl in let u = c.places.ups p in omega arith;
        helds = λ p. let m = mark_push held_mark w.progress p f refl in let r = weight_push (in_last p) w.passes x in let u = c.places.helds p in omega arith;
      };
      needs = record {
        firsts = λ z a u m t h. elim (get_before_pushed w.progress f (Entered a u) z.number h) [
          | inl e ↦ elim (member_push w.passes x z m) [
            | inl q ↦ let same : v ≡ u = cc (e.1) in sym same ∙ ap (λ k. k.version) q
            | inr old ↦ absurd (no_first w c z old t e.0)
          ]
          | inr there ↦ elim (member_push w.passes x z m) [
            | inl q ↦ absurd (none-some _ (sym (get_past w.progress) ∙ subst (λ k. slice_get w.progress k ≡ Some (Entered a u)) (sym (ap (λ k. k.number) q)) there))
            | inr old ↦ c.needs.firsts z a u old t there
          ]
        ];
        helds = λ p need a d u y m h. elim (get_before_pushed w.progress f (Held a d u y) p h) [
          | inl e ↦ cc
              (e.1)
          | inr there ↦ c.needs.helds p need a d u y m there
        ];
        downs = λ p a d u y m h. elim (get_before_pushed w.progress f (Held a d u y) p h) [ inl e ↦ cc (e.1) | inr there ↦ c.needs.downs p a d u y m there ];
        lasts = λ z a d u y m t h. elim (get_before_pushed w.progress f (Held a d u y) z.number h) [
          | inl e ↦ cc (e.1)
          | inr there ↦ elim (member_push w.passes x z m) [ inl q ↦ absurd (true_not_false (ap (λ k. k.pre) q ∙ t)) | inr old ↦ c.needs.lasts z a d u y old t there ]
        ];
      };
      each = each_push (FateOk w.events w.version v) w.progress f c.each (omega arith, omega arith);
      pairs = pairs_push w.progress f c.pairs (fits_late w.events w.version v w.progress f c.each refl (λ u e. let s = same_Some _ _ e in omega arith));
    }

-- The pass at place j ends, and its packet changes from o, as what is under way, to f.
pub record Ends (x : Pass) (o f : Progress) : Type 0 where
  pub first : (p : ℕ) → in_first p x ≡ pass_mark (Some o) * is x.number p
  pub last : (p : ℕ) → in_last p x ≡ held_mark (Some o) * is x.number p
  pub not_up : up_mark (Some o) ≡ 0
  pub not_first : pass_mark (Some f) ≡ 0
  pub not_held : held_mark (Some f) ≡ 0

consistent_ended : (w : State) (j : ℕ) (x : Pass) (o f : Progress) (up : List ℕ) → slice_get w.passes j ≡ Some x → slice_get w.progress x.number ≡ Some o → Ends x o f
    → ((p : ℕ) → weight (in_up p) up ≡ weight (in_up p) w.up + up_mark (Some f) * is x.number p)
    → FateOk w.events w.version (visible w.batches w.done) f → Fits w.progress f → Consistent w
    → Consistent (record w { passes = remove w.passes j; up = up; progress = set w.progress x.number f })
consistent_ended w j x o f up g there e goes ok fits c =
    let no_up : (p : ℕ) → up_mark (Some o) * is x.number p ≡ 0 = λ p. rw e.not_up (omega arith) in
    let no_first : (p : ℕ) → pass_mark (Some f) * is x.number p ≡ 0 = λ p. rw e.not_first (omega arith) in
    let no_held : (p : ℕ) → held_mark (Some f) * is x.number p ≡ 0 = λ p. rw e.not_held (omega arith) in
    record {
      counts = c.counts;
      places = record {
        firsts = λ p. let m = mark_set pass_mark w.progress x.number p o f there in let r = weight_remove (in_first p) w.passes j x g in let i = e.first p in let n = no_first p in
            let u = c.places.firsts p in omega arith;
        ups = λ p. let m = mark_set up_mark w.progress x.number p o f there in let n = no_up p in let i = goes p in let u = c.places.ups p in omega arith;
        helds = λ p. let m = mark_set held_mark w.progress x.number p o f there in let r = weight_remove (in_last p) w.passes j x g in let i = e.last p in let n = no_held p in
            let u = c.places.helds p in omega arith;
      };
      needs = needs_ended w j x.number o f c there e.not_first e.not_held;
      each = each_set (FateOk w.events w.version (visible w.batches w.done)) w.progress x.number o f there c.each ok;
      pairs = pairs_set w.progress x.number o f there c.pairs fits;
    }

-- a packet that is released now, with the version that it had
now_fits : (w : State) (n : ℕ) (o f : Progress) → slice_get w.progress n ≡ Some o → released_at (Some f) ≡ Some w.events → admitted_at (Some f) ≡ admitted_at (Some o)
    → version_at (Some f) ≡ version_at (Some o) → Consistent w → Fits w.progress f
now_fits w n o f there rel adm same c = fits_now w.events w.version (visible w.batches w.done) n w.progress o f c.each there c.pairs rel adm same

pub consistent_finished : (w : State) (j : ℕ) (x : Pass) (y : Verdict) → slice_get w.passes j ≡ Some x → x.pre ≡ true → Consistent w → Consistent (finished_at w j x y)
consistent_finished w j x y g t c =
    let at' = at_first w j x c.places g t in
    let o : Progress = Entered at'.0 at'.1 in
    let f : Progress = Fast at'.0 w.events at'.1 y in
    let old = c.each x.number o at'.2 in
    rw (ap (finished w.events y) at'.2) (consistent_ended w j x o f w.up g at'.2
    (record { first = λ p. rw t (omega arith); last = λ p. rw t (omega arith); not_up = refl; not_first = refl; not_held = refl })
    (λ p. omega arith) (old.0, omega arith, old.1) (now_fits w x.number o f at'.2 refl refl refl c) c)

pub consistent_sent_up : (w : State) (j : ℕ) (x : Pass) → slice_get w.passes j ≡ Some x → x.pre ≡ true → Consistent w → Consistent (up_at w j x)
consistent_sent_up w j x g t c =
    let at' = at_first w j x c.places g t in
    let o : Progress = Entered at'.0 at'.1 in
    let f : Progress = Up at'.0 in
    let old = c.each x.number o at'.2 in
    rw (ap went_up at'.2) (consistent_ended w j x o f (w.up ++ x.number ∷ []) g at'.2
    (record { first = λ p. rw t (omega arith); last = λ p. rw t (omega arith); not_up = refl; not_first = refl; not_held = refl })
    (λ p. let r = weight_push (in_up p) w.up x.number in omega arith) old.0
    (fits_late w.events w.version (visible w.batches w.done) w.progress f c.each refl (λ u e. absurd (none-some u e))) c)

pub consistent_came_down : (a : Answers) (w : State) (j : ℕ) (x : Pass) → slice_get w.passes j ≡ Some x → x.pre ≡ false → Consistent w → Consistent (out_at a w j x)
consistent_came_down a w j x g t c =
    let fate = at_last w j x c.places g t in
    let o : Progress = Held fate.0 fate.1 fate.2 fate.3 in
    let f : Progress = Slow fate.0 fate.1 fate.2 (a.post fate.3 x.number) w.events in
    let old = c.each x.number o fate.4 in
    let seen = c.needs.lasts x fate.0 fate.1 fate.2 fate.3 (get_member w.passes j x g) t fate.4 in
    let more = visible_more (w.batches) w.acked w.done c.counts.acked_in in
    rw (ap (released (λ over. a.post over x.number) w.events) fate.4) (consistent_ended w j x o f w.up g fate.4
    (record { first = λ p. rw t (omega arith); last = λ p. rw t (omega arith); not_up = refl; not_first = refl; not_held = refl })
    (λ p. omega arith) (old.0, old.1, omega arith, omega arith) (now_fits w x.number o f fate.4 refl refl refl c) c)

pub consistent_let_go : (w : State) (j p need : ℕ) → slice_get w.held j ≡ Some (p, need) → need ≤ visible w.batches w.acked → Consistent w → Consistent (go_at w j p)
consistent_let_go w j p need g h c = record {
  counts = c.counts;
  places = record {
    firsts = c.places.firsts;
    ups = c.places.ups;
    helds = λ q. let r = weight_remove (in_held q) w.held j (p, need) g in let b = weight_push (in_up q) w.down p in let u = c.places.helds q in omega arith;
  };
  needs = record {
    firsts = c.needs.firsts;
    helds = λ q n a d v y m. c.needs.helds q n a d v y (member_remove w.held j (q, n) m);
    downs = λ q a d v y m there. elim (member_push w.down p q m) [
      | inl e ↦ let is_need = c.needs.helds p need a d v y (get_member w.held j (p, need) g) (subst (λ k. slice_get w.progress k ≡ Some (Held a d v y)) (sym e) there) in omega arith
      | inr old ↦ c.needs.downs q a d v y old there
    ];
    lasts = c.needs.lasts;
  };
  each = c.each;
  pairs = c.pairs;
}

pub consistent_let_down : (w : State) (j p stages : ℕ) → slice_get w.down j ≡ Some p → Consistent w → Consistent (let_down w j p stages)
consistent_let_down w j p stages g c =
    let x : Pass = pass_of w false p stages in
    record {
      counts = c.counts;
      places = record {
        firsts = λ q. let r = weight_push (in_first q) w.passes x in let u = c.places.firsts q in omega arith;
        ups = c.places.ups;
        helds = λ q. let r = weight_remove (in_up q) w.down j p g in let b = weight_push (in_last q) w.passes x in let u = c.places.helds q in omega arith;
      };
      needs = record {
        firsts = λ z a v m t there. elim (member_push w.passes x z m) [ inl e ↦ absurd (true_not_false (sym t ∙ sym (ap (λ k. k.pre) e))) | inr old ↦ c.needs.firsts z a v old t there ];
        helds = c.needs.helds;
        downs = λ q a d v y m. c.needs.downs q a d v y (member_remove w.down j q m);
        lasts = λ z a d v y m t there. elim (member_push w.passes x z m) [
          | inl e ↦ c.needs.downs p a d v y (get_member w.down j p g) (subst (λ k. slice_get w.progress k ≡ Some (Held a d v y)) (sym (ap (λ k. k.number) e)) there)
          | inr old ↦ c.needs.lasts z a d v y old t there
        ];
      };
      each = c.each;
      pairs = c.pairs;
    }

pub pair_first : (p v q u : ℕ) → ◌≡◌ {A = ℕ × ℕ} (p, v) (q, u) → p ≡ q
pair_first p v q u e = ap (λ (x : ℕ × ℕ). x.0) e

-- what stands behind the server isn't up
pub not_held : (w : State) → Consistent w → (q need a : ℕ) → Member (q, need) w.held → slice_get w.progress q ≡ Some (Up a) → ⊥
not_held w c q need a m there =
    let r = member_weight (in_held q) w.held (q, need) m in let one = is_self q in let u = c.places.helds q in let none = ap held_mark there in omega arith

pub not_down : (w : State) → Consistent w → (q a : ℕ) → Member q w.down → slice_get w.progress q ≡ Some (Up a) → ⊥
not_down w c q a m there =
    let r = member_weight (in_up q) w.down q m in let one = is_self q in let u = c.places.helds q in let none = ap held_mark there in omega arith

pub not_last : (w : State) → Consistent w → (z : Pass) (a : ℕ) → Member z w.passes → z.pre ≡ false → slice_get w.progress z.number ≡ Some (Up a) → ⊥
not_last w c z a m t there =
    let r = member_weight (in_last z.number) w.passes z m in let one : in_last z.number z ≡ 1 = rw (t, is_self z.number) refl in
    let u = c.places.helds z.number in let none = ap held_mark there in omega arith

-- what another packet was, before this one changed
other_was : (fates : List Progress) (p q : ℕ) (o f is : Progress) → slice_get fates p ≡ Some o → (slice_get fates q ≡ Some o → ⊥)
    → slice_get (set fates p f) q ≡ Some is → slice_get fates q ≡ Some is
other_was fates p q o f is there other h = elim (set_cases fates p q o f is there h) [
  | inl e ↦ absurd (other (subst (λ n. slice_get fates n ≡ Some o) (sym e.0) there))
  | inr old ↦ old
]

pub consistent_run : (a : Answers) (w : State) (j p v : ℕ) (stores : List Store) (batches : List Batch) → slice_get w.up j ≡ Some p → w.version ≤ v
    → ((n : ℕ) → n ≤ length (commands_in w.batches) → visible batches n ≡ visible w.batches n)
    → AreCounted (run_at a w j p v stores batches) → Consistent w → Consistent (run_at a w j p v stores batches)
consistent_run a w j p v stores batches g later shows counts c =
    let fate = at_up w j p c.places g in
    let y = w.store in
    let o : Progress = Up fate.0 in
    let f : Progress = Held fate.0 w.events v y in
    let old = c.each p o fate.1 in
    let done = shows w.done (let a = c.counts.sent_in in let b = c.counts.done_in in omega arith) in
    let acked = shows w.acked (let a = c.counts.sent_in in let b = c.counts.done_in in let d = c.counts.acked_in in omega arith) in
    let most = shown_le w w.done c in
    rw (ap (decided w.events v y) fate.1) (record {
      counts = counts;
      places = record {
        firsts = λ q. let m = mark_set pass_mark w.progress p q o f fate.1 in let u = c.places.firsts q in omega arith;
        ups = λ q. let m = mark_set up_mark w.progress p q o f fate.1 in let r = weight_remove (in_up q) w.up j p g in let u = c.places.ups q in omega arith;
        helds = λ q. let m = mark_set held_mark w.progress p q o f fate.1 in let r = weight_push (in_held q) w.held (p, v) in let u = c.places.helds q in omega arith;
      };
      needs = record {
        firsts = λ z a u m t there. elim (set_cases w.progress p z.number o f (Entered a u) fate.1 there) [
          | inl e ↦ cc (e.1)
          | inr was ↦ c.needs.firsts z a u m t was
        ];
        helds = λ q need a d u z m there. elim (member_push w.held (p, v) (q, need) m) [
          | inl fresh ↦
              let same : q ≡ p = sym (ap (λ (x : ℕ × ℕ). x.0) fresh) in
              let now = sym (get_set_same w.progress p o f fate.1) ∙ subst (λ k. slice_get (set w.progress p f) k ≡ Some (Held a d u z)) same there in
              let version : v ≡ u = cc (now) in
              sym version ∙ ap (λ (x : ℕ × ℕ). x.1) fresh
          | inr old_one ↦ c.needs.helds q need a d u z old_one (other_was w.progress p q o f (Held a d u z) fate.1 (not_held w c q need fate.0 old_one) there)
        ];
        downs = λ q a d u z m there. rw acked
            (c.needs.downs q a d u z m (other_was w.progress p q o f (Held a d u z) fate.1 (not_down w c q fate.0 m) there));
        lasts = λ q a d u z m t there. rw acked
            (c.needs.lasts q a d u z m t (other_was w.progress p q.number o f (Held a d u z) fate.1 (not_last w c q fate.0 m t) there));
      };
      each = rw done (each_set (FateOk w.events v (visible w.batches w.done)) w.progress p o f fate.1
          (each_weaker (FateOk w.events w.version (visible w.batches w.done)) (FateOk w.events v (visible w.batches w.done)) w.progress (λ k. fate_more _ _ _ _ _ _ k (omega arith) later (omega arith)) c.each)
          (old, omega arith, omega arith));
      pairs = pairs_set w.progress p o f fate.1 c.pairs (fits_late w.events w.version (visible w.batches w.done) w.progress f c.each refl (λ u e. let same = same_Some _ _ e in omega arith));
    })
