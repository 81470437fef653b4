-- One event more leaves what the calls so far have answered.
use Rattle.std.proofs.Common.{◌≡◌, ℕ, ◌≤◌, true, false, cond, leb, eqb, List, [], ◌∷◌, ◌++◌, Option, Some, None, inl, refl, sym, ◌∙◌, ap, subst, length, map}
use Rattle.std.specs.Prelude.{slice_get}
use Rattle.std.proofs.lemmas.Bool.{eq-eqb, le-leb}
use Rattle.std.proofs.lemmas.List.{append-nil, append_assoc, map-append}
use Rattle.packet_fields.specs.declared.packet.Packet.{Packet}
use Rattle.state_store.specs.Store.{start_store}
use Rattle.replay_state.specs.Answers.{Setup}
use Rattle.replay_state.specs.State.{State, Pass, first_state}
use Rattle.run_model.specs.declared.event.Event.{Event}
use Rattle.run_model.specs.declared.event.Event.TheVariants.{Admit, Stage, Serve, Down}
use Rattle.replay_state.specs.Drain.{Picks}
use Rattle.replay_state.specs.Step.{applies, step, steps}
use Rattle.replay_state.specs.Step.{pass_of}
use Rattle.replay_state.specs.Agree.{EndAlike, RunAlike, AgreeOn}
use Rattle.run_model.specs.Meaning.{packet_at}
use Rattle.run_model.specs.Members.{Member}
use Rattle.run_model.proofs.Members.{get_member}
use Rattle.replay_state.specs.Program.{SplitProgram}
use Rattle.replay_state.specs.Journal.{SentUp, Call}
use Rattle.replay_state.specs.Journal.{or_else, ends_up, ends_down, up_answer, down_answer, verdict_in, frame_in, told, journal, over_in, down_frame, question_of}
use Rattle.replay_state.specs.Journal.{HasGoneUp, Question, AsksUp, AsksStageUp, AsksDown, AsksStageDown, asks_stage, asks_down, asks, asked, questions, IsAnswered}
use Rattle.replay_state.proofs.Order.{member_left, member_right}
use Rattle.replay_state.specs.Carried.{Carried}
use Rattle.replay_state.proofs.Carried.{EndsWell, carried_step, carried_first}
use Rattle.replay_state.proofs.EndedPasses.{KnownDown, KnownUp, ending, known_down, known_up}
use Rattle.replay_state.proofs.Gone.{sent_up}
use Rattle.replay_state.proofs.AlikeAnswers.{step_alike}
use Rattle.replay_state.proofs.Steps.{steps_append}

-- ---- answers stay where more calls come

or_append : {X : Type 0} (a b c : Option X) → or_else (or_else a b) c ≡ or_else a (or_else b c)
or_append None b c = refl
or_append (Some x) b c = refl

pub up_append : (calls more : List Call) (n : ℕ) → up_answer (calls ++ more) n ≡ or_else (up_answer calls n) (up_answer more n)
up_append [] more n = refl
up_append (call ∷ calls) more n = ap (or_else (ends_up n call)) (up_append calls more n) ∙ sym (or_append (ends_up n call) (up_answer calls n) (up_answer more n))

pub down_append : (calls more : List Call) (n : ℕ) → down_answer (calls ++ more) n ≡ or_else (down_answer calls n) (down_answer more n)
down_append [] more n = refl
down_append (call ∷ calls) more n = ap (or_else (ends_down n call)) (down_append calls more n) ∙ sym (or_append (ends_down n call) (down_answer calls n) (down_answer more n))

pub up_stays : (calls more : List Call) (n : ℕ) → KnownUp calls n → up_answer calls n ≡ up_answer (calls ++ more) n
up_stays calls more n h = h.1 ∙ sym (up_append calls more n ∙ ap (λ o. or_else o (up_answer more n)) h.1)

pub down_stays : (calls more : List Call) (n : ℕ) → KnownDown calls n → down_answer calls n ≡ down_answer (calls ++ more) n
down_stays calls more n h = h.1 ∙ sym (down_append calls more n ∙ ap (λ o. or_else o (down_answer more n)) h.1)

-- ---- what an event asks stands in the journal

-- a pass that ends, before the server or behind it, was asked for
abbrev pub EndKnown : List Call → Pass → Type 0
EndKnown calls x = (x.pre ≡ true → KnownUp calls x.number) × (x.pre ≡ false → KnownDown calls x.number)

module _ (setup : Setup) (s : SplitProgram) (calls : List Call) where
  abbrev pub AllThere : List Question → Type 0
  AllThere qs = (q : Question) → Member q qs → Member q (map question_of calls)

  pub stage_known : (x : Pass) → x.left ≤ 1 → AllThere (asks_stage (Some x)) → EndKnown calls x
  stage_known x low all = (
    (λ t. let q = AsksStageUp x.number (leb x.left 1) in
        known_up calls q x.number (all q (rw t (inl refl))) (ap (λ b. ending b x.number) (le-leb x.left 1 low))),
    (λ t. let q = AsksStageDown x.number (leb x.left 1) in
        known_down calls q x.number (all q (rw t (inl refl))) (ap (λ b. ending b x.number) (le-leb x.left 1 low))),
  )

  pub there_parts : (qs more : List Question) → AllThere (qs ++ more) → AllThere qs × AllThere more
  there_parts qs more all = (λ q m. all q (member_left q qs more m), λ q m. all q (member_right q qs more m))

  pub some_stage : (o : Option Pass) (x : Pass) → AllThere (asks_stage o) → o ≡ Some x → AllThere (asks_stage (Some x))
  some_stage o x all e = subst (λ z. AllThere (asks_stage z)) e all

  down_known : (w : State) (o : Option ℕ) → AllThere (asks_down setup s calls w o) → (n : ℕ) → setup.post_stages ≡ 0 → o ≡ Some n → KnownDown calls n
  down_known w o all n z e =
      let here = subst (λ y. AllThere (asks_down setup s calls w y)) e all in
      let q = AsksDown setup.fine n (down_frame s calls w n) (eqb setup.post_stages 0) in
      known_down calls q n (here q (inl refl)) (ap (λ b. ending b n) (eq-eqb setup.post_stages 0 z))

module _ (setup : Setup) (s : SplitProgram) (packets : List Packet) (calls : List Call) where
  pub admit_known : (w : State) → AllThere setup s calls (asks setup s packets calls w Admit) → setup.pre_stages ≡ 0 → KnownUp calls (length w.progress)
  admit_known w all z =
      let n = length w.progress in
      let q = AsksUp setup.fine n (packet_at packets n) (eqb setup.pre_stages 0) in
      known_up calls q n (all q (inl refl)) (ap (λ b. ending b n) (eq-eqb setup.pre_stages 0 z))

  ends_known : (w : State) (e : Event) → AllThere setup s calls (asks setup s packets calls w e) → EndsWell setup (journal s calls) (HasGoneUp calls) w e
  ends_known w Admit all = λ z none. sent_up calls (length w.progress) (admit_known w all z) none
  ends_known w (Stage j) all = λ x low g t none. sent_up calls x.number ((stage_known setup s calls x low (some_stage setup s calls (slice_get w.passes j) x all g)).0 t) none
  ends_known w e all = tt

  -- each packet that goes up does so in a frame
  pub cover_step : (w : State) (e : Event) → AllThere setup s calls (asked setup s packets calls w e) → Carried (HasGoneUp calls) w → Carried (HasGoneUp calls) (step setup (journal s calls) w e)
  cover_step w e all c = carried_step setup (journal s calls) (HasGoneUp calls) w e (λ t. ends_known w e (rw t at all)) c

  pub cover_steps : (w : State) (es : List Event) → AllThere setup s calls (questions setup s packets calls w es) → Carried (HasGoneUp calls) w
      → Carried (HasGoneUp calls) (steps setup (journal s calls) w es)
  cover_steps w [] all c = c
  cover_steps w (e ∷ es) all c =
      let next = step setup (journal s calls) w e in
      let parts = there_parts setup s calls (asked setup s packets calls w e) (questions setup s packets calls next es) all in
      cover_steps next es parts.1 (cover_step w e parts.0 c)

  -- ---- more calls leave the answers

  module _ (more : List Call) where
    end_alike : (w : State) (x : Pass) → EndKnown calls x → EndAlike (journal s calls) (journal s (calls ++ more)) w x
    end_alike w x k = record {
      pre = λ t. ap verdict_in (up_stays calls more x.number (k.0 t));
      post = λ e d v over t g. ap told (down_stays calls more x.number (k.1 t));
    }

    went_up_stays : (n : ℕ) → HasGoneUp calls n → up_answer calls n ≡ up_answer (calls ++ more) n
    went_up_stays n k = up_stays calls more n (SentUp k.0, k.1)

    run_alike : (w : State) (n : ℕ) → HasGoneUp calls n → RunAlike (journal s calls) (journal s (calls ++ more)) w n
    run_alike w n k = record {
      after = ap (λ o. s.serve_after w.store (frame_in o)) (went_up_stays n k);
      changes = ap (λ o. s.serve_changes w.store (frame_in o)) (went_up_stays n k);
    }

    agree_on : (w : State) (e : Event) → AllThere setup s calls (asks setup s packets calls w e) → Carried (HasGoneUp calls) w → AgreeOn setup (journal s calls) (journal s (calls ++ more)) w e
    agree_on w Admit all c = λ z. end_alike w (pass_of w true (length w.progress) setup.pre_stages) ((λ t. admit_known w all z), (λ t. cc))
    agree_on w (Stage j) all c = λ x low g. end_alike w x (stage_known setup s calls x low (some_stage setup s calls (slice_get w.passes j) x all g))
    agree_on w (Serve j) all c = λ n g. run_alike w n (c.up n (get_member w.up j n g))
    agree_on w (Down j) all c = λ n z g. end_alike w (pass_of w false n setup.post_stages) ((λ t. cc), (λ t. down_known setup s calls w (slice_get w.down j) all n z g))
    agree_on w e all c = tt

    step_stays : (w : State) (e : Event) → AllThere setup s calls (asked setup s packets calls w e) → Carried (HasGoneUp calls) w → step setup (journal s calls) w e ≡ step setup (journal s (calls ++ more)) w e
    step_stays w e all c = step_alike setup (journal s calls) (journal s (calls ++ more)) w e (λ t. agree_on w e (rw t at all) c)

    frames_stay : (w : State) (o : Option ℕ) → ((n : ℕ) → o ≡ Some n → HasGoneUp calls n) → asks_down setup s calls w o ≡ asks_down setup s (calls ++ more) w o
    frames_stay w None k = refl
    frames_stay w (Some n) k = ap (λ z. asks_down_with w n (frame_in z)) (went_up_stays n (k n refl))
      where
        asks_down_with : State → ℕ → List ℕ → List Question
        asks_down_with w n frame = AsksDown setup.fine n (s.serve_down (over_in (slice_get w.progress n)) frame) (eqb setup.post_stages 0) ∷ []

    asks_stay : (w : State) (e : Event) → Carried (HasGoneUp calls) w → asks setup s packets calls w e ≡ asks setup s packets (calls ++ more) w e
    asks_stay w (Down j) c = frames_stay w (slice_get w.down j) (λ n g. c.down n (get_member w.down j n g))
    asks_stay w e c = refl

    asked_stay : (w : State) (e : Event) → Carried (HasGoneUp calls) w → asked setup s packets calls w e ≡ asked setup s packets (calls ++ more) w e
    asked_stay w e c = ap (λ z. cond (applies setup w e) z []) (asks_stay w e c)

    pub run_stays : (w : State) (es : List Event) → AllThere setup s calls (questions setup s packets calls w es) → Carried (HasGoneUp calls) w
        → (steps setup (journal s calls) w es ≡ steps setup (journal s (calls ++ more)) w es) × (questions setup s packets calls w es ≡ questions setup s packets (calls ++ more) w es)
    run_stays w [] all c = (refl, refl)
    run_stays w (e ∷ es) all c =
        let next = step setup (journal s calls) w e in
        let parts = there_parts setup s calls (asked setup s packets calls w e) (questions setup s packets calls next es) all in
        let rest = run_stays next es parts.1 (cover_step w e parts.0 c) in
        let same = step_stays w e parts.0 c in (
          rest.0 ∙ ap (λ x. steps setup (journal s (calls ++ more)) x es) same,
          ap (λ q. q ++ questions setup s packets calls next es) (asked_stay w e c)
              ∙ ap (λ q. asked setup s packets (calls ++ more) w e ++ q) (rest.1 ∙ ap (λ x. questions setup s packets (calls ++ more) x es) same),
        )

    pub picks_stay : (w : State) (es : List Event) → AllThere setup s calls (questions setup s packets calls w es) → Carried (HasGoneUp calls) w
        → Picks setup (journal s calls) w es → Picks setup (journal s (calls ++ more)) w es
    picks_stay w [] all c p = tt
    picks_stay w (e ∷ es) all c p =
        let next = step setup (journal s calls) w e in
        let parts = there_parts setup s calls (asked setup s packets calls w e) (questions setup s packets calls next es) all in
        (p.0, subst (λ x. Picks setup (journal s (calls ++ more)) x es) (step_stays w e parts.0 c) (picks_stay next es parts.1 (cover_step w e parts.0 c) p.1))

pub questions_append : (setup : Setup) (s : SplitProgram) (packets : List Packet) (calls : List Call) (w : State) (es more : List Event)
    → questions setup s packets calls w (es ++ more) ≡ questions setup s packets calls w es ++ questions setup s packets calls (steps setup (journal s calls) w es) more
questions_append setup s packets calls w [] more = refl
questions_append setup s packets calls w (e ∷ es) more =
    ap (λ q. asked setup s packets calls w e ++ q) (questions_append setup s packets calls (step setup (journal s calls) w e) es more)
    ∙ sym (append_assoc (asked setup s packets calls w e) _ _)

module _ (setup : Setup) (s : SplitProgram) (packets : List Packet) where
  abbrev begin : State
  begin = first_state (start_store setup.objects)

  -- what is asked on the way stands in the journal
  pub all_asked : (events : List Event) (calls : List Call) (st : State) → IsAnswered setup s packets events calls st → AllThere setup s calls (questions setup s packets calls begin events)
  all_asked events calls st h q m = subst (Member q) (sym h.asked) m

  -- one event more
  pub next_answered : (events : List Event) (event : Event) (calls one : List Call) (st : State)
      → IsAnswered setup s packets events calls st → map question_of one ≡ asked setup s packets (calls ++ one) st event
      → IsAnswered setup s packets (events ++ event ∷ []) (calls ++ one) (step setup (journal s (calls ++ one)) st event)
  next_answered events event calls one st h new =
      let w = begin in
      let b = calls ++ one in
      let stays = run_stays setup s packets calls one w events (all_asked events calls st h) (carried_first (HasGoneUp calls) (start_store setup.objects)) in
      let is : st ≡ steps setup (journal s b) w events = h.run ∙ stays.0 in
      record {
        run = ap (λ x. step setup (journal s b) x event) is ∙ sym (steps_append setup (journal s b) w events (event ∷ []));
        asked = map-append question_of calls one
            ∙ ap (λ q. q ++ map question_of one) (h.asked ∙ stays.1)
            ∙ ap (λ q. questions setup s packets b w events ++ q) (new ∙ ap (λ x. asked setup s packets b x event) is ∙ sym (append-nil (asked setup s packets b (steps setup (journal s b) w events) event)))
            ∙ sym (questions_append setup s packets b w events (event ∷ []));
      }
