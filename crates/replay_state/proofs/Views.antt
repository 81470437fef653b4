-- A pass under way sees the version over which it entered.
use Rattle.std.proofs.Common.{◌≡◌, ℕ, ◌+◌, ◌-◌, ◌<◌, ◌≤◌, Bool, true, false, List, [], ◌∷◌, ◌++◌, Some, inl, inr, sym, ◌∙◌, ap, subst, arith, suc, take, length}
use Rattle.std.specs.Prelude.{⊤, slice_get, remove}
use Rattle.std.proofs.lemmas.Bool.{cases_Bool}
use Rattle.std.proofs.lemmas.List.{get_or_append_left}
use Rattle.state_store.specs.Store.{Store, object_at}
use Rattle.writeback_table.specs.declared.command.Command.{Command}
use Rattle.writeback_table.specs.Pair.{visible, first_pair}
use Rattle.writeback_table.specs.Commands.{pair_through}
use Rattle.replay_state.specs.Answers.{Answers, Setup}
use Rattle.output_commit.specs.Batches.{Batch, commands_in}
use Rattle.replay_state.specs.State.{State, Pass, applied_commands, store_at, first_state}
use Rattle.run_model.specs.declared.event.Event.{Event}
use Rattle.replay_state.specs.Step.{disturbs, pass_of, state_of, waits}
use Rattle.replay_state.specs.SoundAnswers.{AreSound}
use Rattle.replay_state.specs.Tables.{pair_now}
use Rattle.replay_state.specs.Views.{KeepViews}
use Rattle.run_model.specs.Members.{Member}
use Rattle.run_model.proofs.Members.{get_member}
use Rattle.replay_state.proofs.Lists.{member_remove, member_push, member_set}
use Rattle.replay_state.proofs.Effects.{shown_le}
use Rattle.replay_state.proofs.History.{updates_in}
use Rattle.replay_state.proofs.InvariantKept.{kept_of}
use Rattle.replay_state.proofs.Seen.{begin, Stored, ready_from, seen_from, stored_closed, stored_first, stored_idle, stored_tick}
use Rattle.replay_state.proofs.Steps.{applied_one, moved_at, run_at}
use Rattle.replay_state.proofs.Walk.{Both, Leads, beside, leads_steps}
use Rattle.replay_state.proofs.Steady.{stays_seen}
use Rattle.lemmas.proofs.Lists.{get_within}
use Rattle.output_commit.proofs.MergedBatches.{is_merged, push_take}

-- ---- a command that doesn't wait disturbs no pass

free : (xs : List Pass) (c : Command) → waits xs (Some c) ≡ false → (x : Pass) → Member x xs → disturbs x.bit c ≡ false
free [] c h x m = absurd m
free (y ∷ xs) c h x m = elim (cases_Bool (disturbs y.bit c)) [
  | inl t ↦ let e : true ≡ false = (rw t at h) in cc
  | inr f ↦ let rest = (rw f at h) in elim m [
    | inl e ↦ subst (λ (z : Pass). disturbs z.bit c ≡ false) e f
    | inr old ↦ free xs c rest x old
  ]
]

-- ---- the views

pub record ViewsOf (setup : Setup) (passes : List Pass) (commands : List Command) (stores : List Store) (version : ℕ) : Type 0 where
  pub views : (x : Pass) → Member x passes → (o : ℕ) → setup.replicated o ≡ true
      → visible x.bit (pair_through o (first_pair setup.objects setup.writeback o) commands) ≡ (object_at (store_at stores x.version) o).contents
  pub low : (x : Pass) → Member x passes → x.version ≤ version

abbrev pub Views : Setup → State → Type 0
Views setup w = ViewsOf setup w.passes (applied_commands w) w.stores w.version

module _ (setup : Setup) (a : Answers) (law : AreSound setup a) where
  fewer_views : (w : State) (j : ℕ) → Views setup w → Views setup (record w { passes = remove w.passes j })
  fewer_views w j h = record { views = λ z m. h.views z (member_remove w.passes j z m); low = λ z m. h.low z (member_remove w.passes j z m) }

  -- a pass enters over what lookups see now
  one_more : (w : State) (pre : Bool) (number stages : ℕ) → Both (Stored setup) (Views setup) w
      → Views setup (record w { passes = w.passes ++ pass_of w pre number stages ∷ [] })
  one_more w pre number stages h =
      let x = pass_of w pre number stages in
      let sees = (seen_from setup w h.base.own.history).shows in
      record {
        views = λ z m o rep. elim (member_push w.passes x z m) [
          | inl e ↦ subst (λ (q : Pass). visible q.bit (pair_now setup w o) ≡ (object_at (store_at w.stores q.version) o).contents) e (sees o rep)
          | inr old ↦ h.own.views z old o rep
        ];
        low = λ z m. elim (member_push w.passes x z m) [
          | inl e ↦ subst (λ (q : Pass). q.version ≤ w.version) e (shown_le w w.done h.base.base.consistent)
          | inr old ↦ h.own.low z old
        ];
      }

  one_moved : (w : State) (j : ℕ) (x : Pass) → slice_get w.passes j ≡ Some x → Views setup w → Views setup (moved_at w j x)
  one_moved w j x g h =
      let y : Pass = record x { left = x.left - 1 } in
      let there = get_member w.passes j x g in
      record {
        views = λ z m o rep. elim (member_set w.passes j y z m) [
          | inl e ↦ subst (λ (q : Pass). visible q.bit (pair_now setup w o) ≡ (object_at (store_at w.stores q.version) o).contents) e (h.views x there o rep)
          | inr old ↦ h.views z old o rep
        ];
        low = λ z m. elim (member_set w.passes j y z m) [ inl e ↦ subst (λ (q : Pass). q.version ≤ w.version) e (h.low x there) | inr old ↦ h.low z old ];
      }

  one_batch : (w : State) (j p : ℕ) (b : Batch) → Stored setup w → Views setup w → Views setup (run_at a w j p (w.version + 1) (w.stores ++ a.after w.store p ∷ []) (w.batches ++ b ∷ []))
  one_batch w j p b k h =
      let i1 = k.base.consistent.counts.done_in in let i2 = k.base.consistent.counts.sent_in in let i3 = k.base.consistent.counts.all in
      let same : take w.done (commands_in (w.batches ++ b ∷ [])) ≡ take w.done (commands_in w.batches) = push_take w.batches (b ∷ []) w.done (omega arith) in
      record {
        views = λ x m o rep.
            let low = h.low x m in
            let there = get_or_append_left w.stores (a.after w.store p ∷ []) [] x.version (omega arith) in
            ap (λ cs. visible x.bit (pair_through o (first_pair setup.objects setup.writeback o) cs)) same ∙ h.views x m o rep ∙ sym (ap (λ s. (object_at s o).contents) there);
        low = λ x m. let low = h.low x m in omega arith;
      }

  one_applied : (w : State) → w.done < w.sent → waits w.passes (slice_get (commands_in w.batches) w.done) ≡ false → Stored setup w → Views setup w → Views setup (applied_one w)
  one_applied w below free_now k h =
      let sent = k.base.consistent.counts.sent_in in
      let g = get_within (commands_in w.batches) w.done (omega arith) in
      let c = g.0 in
      let wait = sym (ap (waits w.passes) g.1) ∙ free_now in
      let count : w.done + 1 ≡ suc w.done = omega arith in
      let low : w.done < length (commands_in w.batches) = omega arith in
      record {
        views = λ x m o rep.
            let ready = ready_from setup w k.own.history o rep in
            let stays = stays_seen o (first_pair setup.objects setup.writeback o) (updates_in w.batches) ready x.bit w.done c
            g.1 low (free w.passes c wait x m) in
            ap (λ n. visible x.bit (pair_through o (first_pair setup.objects setup.writeback o) (take n (commands_in w.batches)))) count ∙ stays ∙ h.views x m o rep;
        low = h.low;
      }

  views_kept : Leads setup a (λ n. ⊤) (Both (Stored setup) (Views setup)) (Views setup) (Views setup)
  views_kept = record {
    let_in = λ w low h. one_more w true (length w.progress) setup.pre_stages h;
    let_down = λ w j p g h. one_more w false p setup.post_stages h;
    finished = λ w j x y g t e h. fewer_views w j h.own;
    sent_up = λ w j x g t e q h. fewer_views w j h.own;
    out = λ w j x g t h. fewer_views w j h.own;
    moved = λ w j x g h. one_moved w j x g h.own;
    unseen = λ w j p g e h. h.own;
    shown = λ w j p u us g e h. one_batch w j p (record { updates = u ∷ us; versions = 1 }) h.base h.own;
    go = λ w j p need g low h. h.own;
    sent = λ w low h.
        let same = (is_merged setup.fits w.sent w.batches).stays w.done h.base.base.consistent.counts.done_in in
        subst (λ cs. ViewsOf setup w.passes cs w.stores w.version) (sym same) h.own;
    applied = λ w low wait h. one_applied w low wait h.base h.own;
    acked = λ w low h. h.own;
  }

  viewed : (events : List Event) → Both (Stored setup) (Views setup) (state_of setup a events)
  viewed events =
      let Seeing : State → Type 0 = Both (Stored setup) (Views setup) in
      leads_steps setup a Seeing Seeing (λ w h. h) (beside setup a (λ n. ⊤) (Stored setup) (Views setup) (Views setup) (Views setup)
      (stored_closed setup a law) views_kept)
      (λ w h. record { base = stored_tick setup a law w h.base; own = h.own }) (λ w h. record { base = stored_idle setup a law w h.base; own = h.own })
      (first_state (begin setup)) events (record { base = stored_first setup a law; own = record { views = λ x m. absurd m; low = λ x m. absurd m } })

  pub keep_views : (events : List Event) → KeepViews setup (state_of setup a events)
  keep_views events =
      let w = state_of setup a events in
      let v = (viewed events).own in
      let k = kept_of setup a law events in
      record {
        each = λ j o x g rep. v.views x (get_member w.passes j x g) o rep;
        kept = λ j x g. k.own.kept x.version (v.low x (get_member w.passes j x g));
        begun = λ j x g. let low = v.low x (get_member w.passes j x g) in let all = k.base.consistent.counts.all in omega arith;
      }
