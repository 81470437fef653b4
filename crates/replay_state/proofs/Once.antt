-- One call ends each pass.
use Rattle.std.proofs.Common.{◌≡◌, ℕ, ◌+◌, Bool, true, false, cond, leb, eqb, List, [], ◌∷◌, ◌++◌, Option, Some, None, inl, inr, refl, sym, ◌∙◌, ap, subst, arith, length, set}
use Rattle.std.specs.Prelude.{slice_get, remove}
use Rattle.std.proofs.lemmas.Bool.{cases_Bool, cases_eq}
use Rattle.packet_fields.specs.declared.packet.Packet.{Packet}
use Rattle.packet_fields.specs.declared.verdict.Verdict.{Verdict}
use Rattle.state_store.specs.Store.{Store, start_store}
use Rattle.writeback_table.specs.declared.command.Update.{Update}
use Rattle.writeback_table.specs.declared.command.Command.{Command}
use Rattle.run_model.specs.declared.event.Event.{Event}
use Rattle.run_model.specs.declared.event.Event.TheVariants.{Admit, Stage, Serve, Apply, Hold, Down}
use Rattle.replay_state.specs.Answers.{Answers, Setup}
use Rattle.output_commit.specs.Batches.{commands_in}
use Rattle.replay_state.specs.State.{State, Progress, Entered, Up, Held, Slow, Fast, Pass, seen, store_at, first_state}
use Rattle.replay_state.specs.Step.{applies, happens, step, steps, tick}
use Rattle.replay_state.specs.Step.{finished, went_up, decided, released, came_in, ended, entered, staged, pass_of, with_changes, ran, served, let_go, came_down}
use Rattle.replay_state.specs.Program.{SplitProgram}
use Rattle.replay_state.specs.Journal.{Call}
use Rattle.replay_state.specs.Journal.{journal}
use Rattle.replay_state.specs.Journal.{Question, asks_stage, asks_command, asks_down, asks, asked, questions, IsAnswered}
use Rattle.replay_state.specs.Journal.{one_if, has_passed, has_come_down, EndOnce}
use Rattle.replay_state.proofs.Lists.{is, is_other, is_self, mark_push, remove_push}
use Rattle.replay_state.proofs.Fates.{at_first, at_last, at_up}
use Rattle.replay_state.proofs.Effects.{Consistent, consistent_let_down, consistent_let_in, consistent_tick}
use Rattle.replay_state.proofs.EveryState.{EveryState, every_step, every_first}
use Rattle.replay_state.proofs.Steps.{out_at}
use Rattle.replay_state.proofs.EndedPasses.{calls_down, calls_up, down_of, ending, mark, marks, marks_append, up_of}
use Rattle.lemmas.proofs.Lists.{get_pushed, get_set_other, get_set_same}

-- ---- packets whose passes end

abbrev passed : Option Progress → ℕ
passed o = one_if (has_passed o)

abbrev came : Option Progress → ℕ
came o = one_if (has_come_down o)

-- so many passes of each packet end on the way from one state to the other
record Gains (w x : State) (u d : ℕ → ℕ) : Type 0 where
  up : (n : ℕ) → passed (slice_get x.progress n) ≡ passed (slice_get w.progress n) + u n
  down : (n : ℕ) → came (slice_get x.progress n) ≡ came (slice_get w.progress n) + d n

gains_none : (w x : State) → x.progress ≡ w.progress → Gains w x (λ n. 0) (λ n. 0)
gains_none w x same = record {
  up = λ n. ap (λ l. passed (slice_get l n)) same ∙ omega arith;
  down = λ n. ap (λ l. came (slice_get l n)) same ∙ omega arith;
}

-- the numbers of the passes that end: one before the server, or one behind it
abbrev up_gain : Bool → ℕ → ℕ → ℕ
up_gain pre m n = cond pre (is m n) 0

abbrev down_gain : Bool → ℕ → ℕ → ℕ
down_gain pre m n = cond pre 0 (is m n)

no_gain : (b : Bool) → ◌≡◌ {A = ℕ} (cond b 0 0) 0
no_gain true = refl
no_gain false = refl

-- a packet that changes, where one pass of it ends or none
gain_set : (M : Option Progress → ℕ) (fates : List Progress) (k n : ℕ) (old new : Progress) (ends : Bool) → slice_get fates k ≡ Some old
    → M (Some new) ≡ M (Some old) + cond ends 1 0
    → M (slice_get (set fates k new) n) ≡ M (slice_get fates n) + cond ends (is k n) 0
gain_set M fates k n old new ends there e = elim (cases_eq n k) [
  | inl q ↦ rw (q, get_set_same fates k old new there, there, is_self k) e
  | inr d ↦ rw (get_set_other fates k n new d, is_other k n d, no_gain ends) (omega arith)
]

gains_set : (w x : State) (k : ℕ) (old new : Progress) (up down : Bool) → slice_get w.progress k ≡ Some old → x.progress ≡ set w.progress k new
    → passed (Some new) ≡ passed (Some old) + cond up 1 0 → came (Some new) ≡ came (Some old) + cond down 1 0
    → Gains w x (λ n. cond up (is k n) 0) (λ n. cond down (is k n) 0)
gains_set w x k old new up down there same p c = record {
  up = λ n. ap (λ l. passed (slice_get l n)) same ∙ gain_set passed w.progress k n old new up there p;
  down = λ n. ap (λ l. came (slice_get l n)) same ∙ gain_set came w.progress k n old new down there c;
}

module _ (setup : Setup) (a : Answers) where
  gains_in : (w : State) (j : ℕ) (x : Pass) (o : Option Verdict) → slice_get w.passes j ≡ Some x → x.pre ≡ true → Consistent w
      → Gains w (came_in (record w { passes = remove w.passes j }) x.number o) (λ n. is x.number n) (λ n. 0)
  gains_in w j x None g t k =
      let fate = at_first w j x k.places g t in
      gains_set w (came_in (record w { passes = remove w.passes j }) x.number None) x.number (Entered fate.0 fate.1) (Up fate.0) true false fate.2
      (ap (λ o. set w.progress x.number (went_up o)) fate.2) refl refl
  gains_in w j x (Some y) g t k =
      let fate = at_first w j x k.places g t in
      gains_set w (came_in (record w { passes = remove w.passes j }) x.number (Some y)) x.number (Entered fate.0 fate.1)
      (Fast fate.0 w.events fate.1 y) true false fate.2
      (ap (λ o. set w.progress x.number (finished w.events y o)) fate.2) refl refl

  gains_out : (w : State) (j : ℕ) (x : Pass) → slice_get w.passes j ≡ Some x → x.pre ≡ false → Consistent w → Gains w (out_at a w j x) (λ n. 0) (λ n. is x.number n)
  gains_out w j x g t k =
      let fate = at_last w j x k.places g t in
      gains_set w (out_at a w j x) x.number (Held fate.0 fate.1 fate.2 fate.3) (Slow fate.0 fate.1 fate.2 (a.post fate.3 x.number) w.events) false true fate.4
      (ap (λ o. set w.progress x.number (released (λ over. a.post over x.number) w.events o)) fate.4) refl refl

  gains_ended : (w : State) (j : ℕ) (x : Pass) → slice_get w.passes j ≡ Some x → Consistent w
      → Gains w (ended a (record w { passes = remove w.passes j }) x) (up_gain x.pre x.number) (down_gain x.pre x.number)
  gains_ended w j x g k = elim (cases_Bool x.pre) [
    | inl t ↦ rw t (gains_in w j x (a.pre (store_at w.stores x.version) x.number) g t k)
    | inr t ↦ rw t (gains_out w j x g t k)
  ]

  -- a pass that enters, and may end at once
  gains_entered : (w : State) (x : Pass) → Consistent (record w { passes = w.passes ++ x ∷ [] })
      → Gains w (entered a w x) (λ n. cond (eqb x.left 0) (up_gain x.pre x.number n) 0) (λ n. cond (eqb x.left 0) (down_gain x.pre x.number n) 0)
  gains_entered w x k = elim (cases_Bool (eqb x.left 0)) [
    | inl t ↦ rw t (
        let r : Gains w (ended a (record w { passes = remove (w.passes ++ x ∷ []) (length w.passes) }) x) (up_gain x.pre x.number) (down_gain x.pre x.number) =
        let g = gains_ended (record w { passes = w.passes ++ x ∷ [] }) (length w.passes) x (get_pushed w.passes x) k in
        record { up = g.up; down = g.down } in
        subst (λ l. Gains w (ended a (record w { passes = l }) x) (up_gain x.pre x.number) (down_gain x.pre x.number)) (remove_push w.passes x) r)
    | inr t ↦ rw t (gains_none w (record w { passes = w.passes ++ x ∷ [] }) refl)
  ]

  gains_run : (w x : State) (j p v : ℕ) → slice_get w.up j ≡ Some p → x.progress ≡ set w.progress p (decided w.events v w.store (slice_get w.progress p))
      → Consistent w
      → Gains w x (λ n. 0) (λ n. 0)
  gains_run w x j p v g same k =
      let fate = at_up w j p k.places g in
      gains_set w x p (Up fate.0) (Held fate.0 w.events v w.store) false false fate.1 (same
      ∙ ap (λ o. set w.progress p (decided w.events v w.store o)) fate.1) refl refl

  gains_ran : (w : State) (j p : ℕ) (store : Store) (us : List Update) → slice_get w.up j ≡ Some p → Consistent w → Gains w (ran a w (with_changes store us w) j p) (λ n. 0) (λ n. 0)
  gains_ran w j p store [] g k = gains_run w (ran a w (with_changes store [] w) j p) j p w.version g refl k
  gains_ran w j p store (u ∷ us) g k = gains_run w (ran a w (with_changes store (u ∷ us) w) j p) j p (w.version + 1) g refl k

  gains_served : (w : State) (j : ℕ) (o : Option ℕ) → slice_get w.up j ≡ o → Consistent w → Gains w (served a w j o) (λ n. 0) (λ n. 0)
  gains_served w j None g k = gains_none w w refl
  gains_served w j (Some p) g k = gains_ran w j p (a.after w.store p) (a.changes w.store p) g k

  gains_go : (w : State) (j : ℕ) (o : Option (ℕ × ℕ)) → Gains w (let_go w j o) (λ n. 0) (λ n. 0)
  gains_go w j None = gains_none w w refl
  gains_go w j (Some x) = gains_none w (let_go w j (Some x)) refl

-- ---- what an event asks, and what ends by it

abbrev Asked : State → State → List Question → Type 0
Asked w x qs = Gains w x (λ n. marks up_of n qs) (λ n. marks down_of n qs)

as_asked : (w x : State) (u d : ℕ → ℕ) (qs : List Question) → ((n : ℕ) → u n ≡ marks up_of n qs) → ((n : ℕ) → d n ≡ marks down_of n qs) → Gains w x u d
    → Asked w x qs
as_asked w x u d qs p q g = record {
  up = λ n. let e = p n in let h = g.up n in omega arith;
  down = λ n. let e = q n in let h = g.down n in omega arith;
}

ending_mark : (b : Bool) (m n : ℕ) → mark (ending b m) n ≡ cond b (is m n) 0
ending_mark true m n = refl
ending_mark false m n = refl

module _ (setup : Setup) (a : Answers) (s : SplitProgram) (packets : List Packet) (calls : List Call) where
  asked_admit : (w : State) → Consistent w → Asked w (happens setup a w Admit) (asks setup s packets calls w Admit)
  asked_admit w k =
      let f : Progress = Entered w.events (seen w) in
      let mid : State = record w { progress = w.progress ++ f ∷ [] } in
      let x = pass_of w true (length w.progress) setup.pre_stages in
      let g = gains_entered setup a mid x (consistent_let_in w setup.pre_stages k) in
      record {
        up = λ n. let h = g.up n in let m = mark_push passed w.progress n f refl in let e = ending_mark (eqb setup.pre_stages 0) (length w.progress) n in omega arith;
        down = λ n. let h = g.down n in let m = mark_push came w.progress n f refl in let e = no_gain (eqb setup.pre_stages 0) in omega arith;
      }

  asked_stage : (w : State) (j : ℕ) (o : Option Pass) → slice_get w.passes j ≡ o → Consistent w → Asked w (staged a w j o) (asks_stage o)
  asked_stage w j None g k = gains_none w w refl
  asked_stage w j (Some x) g k = elim (cases_Bool (leb x.left 1)) [
    | inl t ↦ rw t (as_asked w (ended a (record w { passes = remove w.passes j }) x) (up_gain x.pre x.number) (down_gain x.pre x.number) _
        (λ n. elim (cases_Bool x.pre) [ inl p ↦ rw p (omega arith) | inr p ↦ rw p (omega arith) ])
        (λ n. elim (cases_Bool x.pre) [ inl p ↦ rw p (omega arith) | inr p ↦ rw p (omega arith) ])
        (gains_ended setup a w j x g k))
    | inr t ↦ rw t (elim (cases_Bool x.pre) [
      | inl p ↦ rw p (gains_none w _ refl)
      | inr p ↦ rw p (gains_none w _ refl)
    ])
  ]

  asked_command : (w x : State) (o : Option Command) → x.progress ≡ w.progress → Asked w x (asks_command o)
  asked_command w x None same = gains_none w x same
  asked_command w x (Some c) same = gains_none w x same

  asked_down : (w : State) (j : ℕ) (o : Option ℕ) → slice_get w.down j ≡ o → Consistent w → Asked w (came_down setup a w j o) (asks_down setup s calls w o)
  asked_down w j None g k = gains_none w w refl
  asked_down w j (Some p) g k =
      let mid : State = record w { down = remove w.down j } in
      let r = gains_entered setup a mid (pass_of w false p setup.post_stages) (consistent_let_down w j p setup.post_stages g k) in
      record {
        up = λ n. let h = r.up n in let e = no_gain (eqb setup.post_stages 0) in omega arith;
        down = λ n. let h = r.down n in let e = ending_mark (eqb setup.post_stages 0) p n in omega arith;
      }

  asked_happens : (w : State) (e : Event) → Consistent w → Asked w (happens setup a w e) (asks setup s packets calls w e)
  asked_happens w Admit k = asked_admit w k
  asked_happens w (Stage j) k = asked_stage w j (slice_get w.passes j) refl k
  asked_happens w (Serve j) k = gains_served setup a w j (slice_get w.up j) refl k
  asked_happens w Apply k = asked_command w (happens setup a w Apply) (slice_get (commands_in w.batches) w.done) refl
  asked_happens w (Hold j) k = gains_go setup a w j (slice_get w.held j)
  asked_happens w (Down j) k = asked_down w j (slice_get w.down j) refl k
  asked_happens w e k = gains_none w _ refl

  asked_step : (w : State) (e : Event) → Consistent w → Asked w (step setup a w e) (asked setup s packets calls w e)
  asked_step w e k = elim (cases_Bool (applies setup w e)) [
    | inl t ↦ rw t (let g = asked_happens (tick w) e (consistent_tick w k) in record { up = g.up; down = g.down })
    | inr t ↦ rw t (gains_none w _ refl)
  ]

module _ (setup : Setup) (s : SplitProgram) (packets : List Packet) (calls : List Call) where
  asked_steps : (w : State) (es : List Event) → EveryState setup w → Asked w (steps setup (journal s calls) w es) (questions setup s packets calls w es)
  asked_steps w [] k = gains_none w w refl
  asked_steps w (e ∷ es) k =
      let a = journal s calls in
      let next = step setup a w e in
      let one = asked_step setup a s packets calls w e k.consistent in
      let rest = asked_steps next es (every_step setup a w e k) in
      record {
        up = λ n. let p = one.up n in let q = rest.up n in let r = marks_append up_of n (asked setup s packets calls w e)
            (questions setup s packets calls next es) in omega arith;
        down = λ n. let p = one.down n in let q = rest.down n in
            let r = marks_append down_of n (asked setup s packets calls w e) (questions setup s packets calls next es) in omega arith;
      }

  pub end_once : (events : List Event) (st : State) → IsAnswered setup s packets events calls st → EndOnce calls st
  end_once events st h =
      let begin = first_state (start_store setup.objects) in
      let g = asked_steps begin events (every_first setup (journal s calls) (start_store setup.objects)) in
      record {
        up = λ n. calls_up calls n ∙ ap (marks up_of n) h.asked ∙ (let p = g.up n in omega arith)
            ∙ ap (λ (w : State). passed (slice_get w.progress n)) (sym h.run);
        down = λ n. calls_down calls n ∙ ap (marks down_of n) h.asked ∙ (let p = g.down n in omega arith)
            ∙ ap (λ (w : State). came (slice_get w.progress n)) (sym h.run);
      }
