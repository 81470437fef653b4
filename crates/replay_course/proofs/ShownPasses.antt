-- What a course shows after an event that is idle, after a packet was served, and where a pass enters, goes on or ends.
use Rattle.std.proofs.Common.{◌≡◌, ℕ, ◌+◌, ◌≤◌, Bool, true, false, List, [], ◌∷◌, ◌++◌, Some, None, inl, inr, refl, sym, ◌∙◌, ap, subst, arith, zero, suc, map, length}
use Rattle.std.specs.Prelude.{slice_get, slice_set, remove, if◌then◌else◌}
use Rattle.std.specs.Option.{option_map}
use Rattle.std.proofs.lemmas.Bool.{lt-ltb}
use Rattle.std.proofs.lemmas.List.{append-nil, map-set, map_push}
use Rattle.std.proofs.lemmas.Option.{same_Some, slice_get-map, slice_get_within}
use Rattle.packet_fields.specs.declared.verdict.Verdict.{Verdict}
use Rattle.state_store.specs.Store.{Store}
use Rattle.writeback_table.specs.declared.command.Update.{Update}
use Rattle.output_commit.specs.Commit.{Commit, batch_of, commands, with_output}
use Rattle.output_commit.specs.declared.output.Output.{Output}
use Rattle.run_model.specs.declared.event.Event.TheVariants as event
use Rattle.run_model.specs.declared.fate.Fate.TheVariants as fate
use Rattle.server_runtime.specs.Serving.{version_after}
use Rattle.replay_state.specs.Answers.{Answers, Setup}
use Rattle.replay_state.specs.Carried.{Carried}
use Rattle.replay_state.specs.Journal.{Call, Finished, HasGoneUp, SentUp, down_answer, down_frame, frame_in, journal, over_in, told, up_answer, verdict_in}
use Rattle.replay_state.specs.Places.{HavePlaces, IsHeld}
use Rattle.replay_state.specs.Program.{SplitProgram}
use Rattle.output_commit.specs.Batches.{Batch, commands_in, visible}
use Rattle.replay_state.specs.declared.pass.Pass.{Pass}
use Rattle.replay_state.specs.State.{State, Entered, Fast, Held, Progress, Slow, Up, bit_behind, fate_of, seen}
use Rattle.replay_state.specs.Step.{applies, came, came_in, came_out, decided, finished, pass_of, ran, released, served, step, tick, went_up, with_changes}
use Rattle.replay_course.specs.Fates as fates_of
use Rattle.replay_course.specs.declared.course.Course.{Course}
use Rattle.replay_course.specs.Going.{came_to, pass_for}
use Rattle.replay_course.specs.Shown.{IsShown}
use Rattle.replay_course.proofs.Lists.{get_member, get_removed}
use Rattle.replay_course.proofs.ShownOutputs.{down_at, moved_shown, number_of, output_at, up_at, waiting}
use Rattle.replay_course.proofs.Versions.{length_more}
use Rattle.lemmas.proofs.Lists.{get_before_pushed, get_set_other, get_set_same, map_remove}
use Rattle.replay_contracts.proofs.KnowingOn.{answer_stays}

-- a packet that the server ran isn't one whose progress is another
not_held : (st : State) (m n : ℕ) (p : Progress) → IsHeld st m → slice_get st.progress n ≡ Some p → ((a d v : ℕ) (over : Store) → p ≡ Held a d v over → ⊥) → m ≡ n → ⊥
not_held st m n p held at other same =
    other held.0 held.1 held.2 held.3 (same_Some _ _ (sym at ∙ ap (slice_get st.progress) (sym same) ∙ held.4))

-- ---- a packet is served

-- what the server's run of the packet at a place leaves of a course
pub record HasRun (s : SplitProgram) (c : Course) (j n : ℕ) (frame : List ℕ) (updates : List Update) (after : Course) : Type 0 where
  pub is : after ≡ record c { up = after.up; server = after.server; commit = after.commit; fates = after.fates; events = c.events + 1 }
  pub here : slice_get c.up.items j ≡ Some (n, frame)
  pub up : after.up.items ≡ remove c.up.items j
  pub store : after.server.store ≡ s.serve_after c.server.store frame
  pub version : after.server.version ≡ version_after c.server.version updates
  pub commit : after.commit ≡ with_output c.commit (record { number = n; need = after.server.version; frame = s.serve_down c.server.store frame }) updates
  pub fates : after.fates.items ≡ slice_set c.fates.items n (fates_of.decided (c.events + 1) after.server.version (slice_get c.fates.items n))

module _ (s : SplitProgram) (calls : List Call) (st : State) (c after : Course) (j n : ℕ) (frame : List ℕ) (updates : List Update)
    (h : IsShown s calls st c) (places : HavePlaces st) (run : HasRun s c j n frame updates after) where
  abbrev serves : Answers
  serves = journal s calls

  went : up_answer calls n ≡ Some (SentUp frame)
  went = h.up_frames j (n, frame) run.here

  place : (admitted : ℕ) × (slice_get st.progress n ≡ Some (Up admitted))
  place = places.up j n (up_at s calls st c h j (n, frame) run.here)

  no_output : (m : ℕ) → IsHeld st m → m ≡ n → ⊥
  no_output m held = not_held st m n (Up place.0) held place.1 (λ a d v over e. cc)

  abbrev now_held : Progress
  now_held = Held place.0 (st.events + 1) after.server.version st.store

  abbrev served_progress : List Progress
  served_progress = slice_set st.progress n now_held

  other_frame : (m : ℕ) → (m ≡ n → ⊥) → s.serve_down (over_in (slice_get st.progress m)) (frame_in (up_answer calls m)) ≡ s.serve_down (over_in (slice_get served_progress m)) (frame_in (up_answer calls m))
  other_frame m other = ap (λ p. s.serve_down (over_in p) (frame_in (up_answer calls m))) (sym (get_set_other st.progress n m now_held other))

  own_frame : s.serve_down c.server.store frame ≡ s.serve_down (over_in (slice_get served_progress n)) (frame_in (up_answer calls n))
  own_frame =
      let over : over_in (slice_get served_progress n) ≡ st.store = ap over_in (get_set_same st.progress n (Up place.0) now_held place.1) in
      let sent : frame_in (up_answer calls n) ≡ frame = ap frame_in went in
      λ i. s.serve_down ((h.store ∙ sym over) i) (sym sent i)

  fates_are : after.fates.items ≡ map fate_of served_progress
  fates_are =
      let was : slice_get c.fates.items n ≡ Some (fate.Up place.0) = ap (λ l. slice_get l n) h.fates ∙ slice_get-map fate_of st.progress n ∙ ap (option_map fate_of) place.1 in
      run.fates ∙ (λ i. slice_set (h.fates i) n (fates_of.decided (h.events i + 1) after.server.version (was i))) ∙ sym (map-set fate_of st.progress n now_held)

  -- behind changes, or none
  abbrev changed : ℕ → List Store → List Batch → State
  changed v ss bs = record (tick st) { version = v; stores = ss; batches = bs }

  ran_shown : (ss : List Store) (bs : List Batch) → bs ≡ st.batches ++ batch_of updates
      → IsShown s calls (ran serves (tick st) (changed after.server.version ss bs) j n) after
  ran_shown ss bs batches_are =
      let next : ran serves (tick st) (changed after.server.version ss bs) j n ≡ record (changed after.server.version ss bs) {
        up = remove st.up j;
        store = s.serve_after st.store (frame_in (up_answer calls n));
        held = st.held ++ (n, after.server.version) ∷ [];
        progress = served_progress;
      } = ap (λ p. record (changed after.server.version ss bs) {
        up = remove st.up j;
        store = s.serve_after st.store (frame_in (up_answer calls n));
        held = st.held ++ (n, after.server.version) ∷ [];
        progress = slice_set st.progress n (decided (st.events + 1) after.server.version st.store p);
      }) place.1 in
      let output : Output = record { number = n; need = after.server.version; frame = s.serve_down c.server.store frame } in
      subst (λ w. IsShown s calls w after) (sym next) (subst (IsShown s calls _) (sym run.is) (record {
        passes = h.passes;
        up = ap (map number_of) run.up ∙ map_remove number_of c.up.items j ∙ ap (λ l. remove l j) h.up;
        up_frames = λ k item e. let r = get_removed c.up.items j k item (sym (ap (λ l. slice_get l k) run.up) ∙ e) in h.up_frames r.0 item r.1;
        store = run.store ∙ (λ i. s.serve_after (h.store i) (sym (ap frame_in went) i));
        version = refl;
        batches = ap (λ (k : Commit). k.batches) run.commit ∙ ap (λ l. l ++ batch_of updates) h.batches ∙ sym batches_are;
        sent = ap (λ (k : Commit). k.sent) run.commit ∙ h.sent;
        done = ap (λ (k : Commit). k.done) run.commit ∙ h.done;
        acked = ap (λ (k : Commit). k.acked) run.commit ∙ h.acked;
        sent_within = subst (λ (k : Commit). k.sent ≤ length (commands k)) (sym run.commit) (more_commands c.commit.batches (batch_of updates) c.commit.sent h.sent_within);
        held = ap (λ (k : Commit). map waiting k.held) run.commit ∙ map_push waiting c.commit.held output ∙ ap (λ l. l ++ (n, after.server.version) ∷ []) h.held;
        held_frames = λ k o e. elim (get_before_pushed c.commit.held output o k (sym (ap (λ (z : Commit). slice_get z.held k) run.commit) ∙ e)) [
          | inl p ↦ subst (λ (z : Output). z.frame ≡ s.serve_down (over_in (slice_get served_progress z.number)) (frame_in (up_answer calls z.number))) p.1 own_frame
          | inr r ↦ h.held_frames k o r ∙ other_frame o.number (no_output o.number (places.held k o.number o.need (output_at s calls st c h k o r)))
        ];
        down = h.down;
        down_frames = λ k item e. h.down_frames k item e ∙ other_frame item.0 (no_output item.0 (places.down k item.0 (down_at s calls st c h k item e)));
        fates = fates_are;
        events = ap (λ z. z + 1) h.events;
        idle = h.idle;
      }))
    where
      more_commands : (xs ys : List Batch) (k : ℕ) → k ≤ length (commands_in xs) → k ≤ length (commands_in (xs ++ ys))
      more_commands xs ys k less = let more = length_more xs ys in omega arith

-- a batch for the changes, if there are any
changes_shown : (s : SplitProgram) (calls : List Call) (st : State) (c after : Course) (j n : ℕ) (frame : List ℕ) (updates : List Update)
    → IsShown s calls st c → HavePlaces st → HasRun s c j n frame updates after → (left : Store)
    → IsShown s calls (ran (journal s calls) (tick st) (with_changes left updates (tick st)) j n) after
changes_shown s calls st c after j n frame [] h places run left =
    let base = ran_shown s calls st c after j n frame [] h places run st.stores st.batches (sym (append-nil st.batches)) in
    subst (λ v. IsShown s calls (ran (journal s calls) (tick st) (record (tick st) { version = v }) j n) after) (run.version ∙ h.version) base
changes_shown s calls st c after j n frame (u ∷ us) h places run left =
    let batch : Batch = record { updates = u ∷ us; versions = 1 } in
    let base = ran_shown s calls st c after j n frame (u ∷ us) h places run (st.stores ++ left ∷ []) (st.batches ++ batch ∷ []) refl in
    subst (λ v. IsShown s calls (ran (journal s calls) (tick st) (record (tick st) { version = v; stores = st.stores ++ left ∷ []; batches = st.batches ++ batch ∷ [] }) j n) after)
    (run.version ∙ ap (λ v. v + 1) h.version) base

pub serve_shown : (s : SplitProgram) (setup : Setup) (calls : List Call) (st : State) (c after : Course) (j n : ℕ) (frame : List ℕ) (updates : List Update)
    → IsShown s calls st c → HavePlaces st → HasRun s c j n frame updates after → s.serve_changes c.server.store frame ≡ updates
    → (applies setup st (event.Serve j) ≡ true) × IsShown s calls (step setup (journal s calls) st (event.Serve j)) after
serve_shown s setup calls st c after j n frame updates h places run changes =
    let a = journal s calls in
    let at = up_at s calls st c h j (n, frame) run.here in
    let may : applies setup st (event.Serve j) ≡ true = lt-ltb _ _ (slice_get_within st.up j n at) in
    let first : step setup a st (event.Serve j) ≡ served a (tick st) j (slice_get st.up j) = rw may refl in
    let second : served a (tick st) j (slice_get st.up j) ≡ served a (tick st) j (Some n) = ap (served a (tick st) j) at in
    let told_so : a.changes st.store n ≡ updates = (λ i. s.serve_changes (sym h.store i) (frame_in (h.up_frames j (n, frame) run.here i))) ∙ changes in
    let last : served a (tick st) j (Some n) ≡ ran a (tick st) (with_changes (a.after st.store n) updates (tick st)) j n =
    ap (λ us. ran a (tick st) (with_changes (a.after st.store n) us (tick st)) j n) told_so in (
      may,
      subst (λ w. IsShown s calls w after) (sym (first ∙ second ∙ last)) (changes_shown s calls st c after j n frame updates h places run (a.after st.store n)),
    )

-- ---- a packet is admitted

pub over_pushed : (ps : List Progress) (p : Progress) (m : ℕ) → over_in (Some p) ≡ [] → over_in (slice_get (ps ++ p ∷ []) m) ≡ over_in (slice_get ps m)
over_pushed [] p zero e = e
over_pushed [] p (suc m) e = refl
over_pushed (q ∷ ps) p zero e = refl
over_pushed (q ∷ ps) p (suc m) e = over_pushed ps p m e

pub pass_is : (s : SplitProgram) (calls : List Call) (st : State) (c : Course) (pre : Bool) (number : ℕ) → IsShown s calls st c
    → pass_for c pre number ≡ pass_of (tick st) pre number (if pre then c.pre_stages else c.post_stages)
pass_is s calls st c pre number h = λ i. record {
  pre = pre;
  number = number;
  version = visible (h.batches i) (h.done i);
  bit = bit_behind (h.batches i) (h.done i);
  left = if pre then c.pre_stages else c.post_stages;
}

pub admit_shown : (s : SplitProgram) (calls : List Call) (st : State) (c after : Course) → after ≡ record c { fates = after.fates; events = c.events + 1 }
    → after.fates.items ≡ c.fates.items ++ fate.Pass (c.events + 1) ∷ [] → IsShown s calls st c → IsShown s calls (came (tick st)) after
admit_shown s calls st c after is fates h =
    let new : Progress = Entered (st.events + 1) (seen st) in
    let frames : (m : ℕ) → down_frame s calls st m ≡ down_frame s calls (came (tick st)) m =
    λ m i. s.serve_down (sym (over_pushed st.progress new m refl) i) (frame_in (up_answer calls m)) in
    subst (IsShown s calls (came (tick st))) (sym is)
    (moved_shown s calls calls st (came (tick st)) c (record c { fates = after.fates; events = c.events + 1 }) h refl refl h.passes h.up h.up_frames
    (λ j n need at. frames n) h.down (λ k item e. h.down_frames k item e ∙ frames item.0)
    (fates ∙ (λ i. h.fates i ++ fate.Pass (h.events i + 1) ∷ []) ∙ sym (map_push fate_of st.progress new)) (ap (λ z. z + 1) h.events) h.idle)

-- ---- a pass ends or goes on

-- what a packet went up in stays
kept_frame : (calls more : List Call) (n : ℕ) → HasGoneUp calls n → frame_in (up_answer calls n) ≡ frame_in (up_answer (calls ++ more) n)
kept_frame calls more n gone = ap frame_in (gone.1 ∙ sym (answer_stays calls more n (SentUp gone.0) gone.1))

-- the store over which the server ran a packet, where one that it didn't run has another progress
over_set : (ps : List Progress) (n : ℕ) (p q : Progress) (m : ℕ) → slice_get ps n ≡ Some p → over_in (Some p) ≡ [] → over_in (Some q) ≡ []
    → over_in (slice_get ps m) ≡ over_in (slice_get (slice_set ps n q) m)
over_set [] n p q m h e d = refl
over_set (x ∷ ps) zero p q zero h e d = ap over_in h ∙ e ∙ sym d
over_set (x ∷ ps) zero p q (suc m) h e d = refl
over_set (x ∷ ps) (suc n) p q zero h e d = refl
over_set (x ∷ ps) (suc n) p q (suc m) h e d = over_set ps n p q m h e d

module _ (s : SplitProgram) (calls more : List Call) (st : State) (c after : Course) (pass : Pass) (h : IsShown s calls st c) (gone : Carried (HasGoneUp calls) st) where
  held_gone : (j n need : ℕ) → slice_get st.held j ≡ Some (n, need) → HasGoneUp calls n
  held_gone j n need at = gone.held n need (get_member st.held j (n, need) at)

  down_gone : (k : ℕ) (item : ℕ × List ℕ) → slice_get c.down.items k ≡ Some item → HasGoneUp calls item.0
  down_gone k item e = gone.down item.0 (get_member st.down k item.0 (down_at s calls st c h k item e))

  up_stays : (k : ℕ) (item : ℕ × List ℕ) → slice_get c.up.items k ≡ Some item → up_answer (calls ++ more) item.0 ≡ Some (SentUp item.1)
  up_stays k item e = answer_stays calls more item.0 (SentUp item.1) (h.up_frames k item e)

  -- the passes under way are others
  pub passes_shown : (now : State) → now ≡ record st { passes = now.passes; events = now.events }
      → after ≡ record c { passes = after.passes; events = after.events } → after.passes ≡ now.passes → after.events ≡ now.events
      → IsShown s (calls ++ more) now after
  passes_shown now state is passes events =
      let frames : (m : ℕ) → HasGoneUp calls m → down_frame s calls st m ≡ down_frame s (calls ++ more) st m =
      λ m went. ap (s.serve_down (over_in (slice_get st.progress m))) (kept_frame calls more m went) in
      let same : State = record st { passes = now.passes; events = now.events } in
      subst (λ w. IsShown s (calls ++ more) w after) (sym state) (subst (IsShown s (calls ++ more) same) (sym is)
      (moved_shown s calls (calls ++ more) st same c (record c { passes = after.passes; events = after.events }) h refl refl passes h.up up_stays
      (λ j n need at. frames n (held_gone j n need at)) h.down (λ k item e. h.down_frames k item e ∙ frames item.0 (down_gone k item e))
      h.fates events h.idle))

  -- one with stages left goes last among them
  pub going_shown : after ≡ record c { passes = c.passes ++ pass ∷ [] } → IsShown s (calls ++ more) (record st { passes = st.passes ++ pass ∷ [] }) after
  going_shown is =
      let passes : after.passes ≡ c.passes ++ pass ∷ [] = ap (λ (z : Course). z.passes) is in
      let events : after.events ≡ c.events = ap (λ (z : Course). z.events) is in
      passes_shown (record st { passes = st.passes ++ pass ∷ [] }) refl (is ∙ (λ i. record c { passes = sym passes i; events = sym events i }))
      (passes ∙ ap (λ l. l ++ pass ∷ []) h.passes) (events ∙ h.events)

  module _ (admitted : ℕ) (entered : slice_get st.progress pass.number ≡ Some (Entered admitted pass.version)) where
    was_pass : slice_get c.fates.items pass.number ≡ Some (fate.Pass admitted)
    was_pass = ap (λ l. slice_get l pass.number) h.fates ∙ slice_get-map fate_of st.progress pass.number ∙ ap (option_map fate_of) entered

    -- a packet that isn't at the server has another progress now
    put_shown : (up : List ℕ) (new : Progress) → over_in (Some new) ≡ [] → after ≡ record c { up = after.up; fates = after.fates }
        → map number_of after.up.items ≡ up
        → ((k : ℕ) (item : ℕ × List ℕ) → slice_get after.up.items k ≡ Some item → up_answer (calls ++ more) item.0 ≡ Some (SentUp item.1))
        → after.fates.items ≡ slice_set c.fates.items pass.number (fate_of new)
        → IsShown s (calls ++ more) (record st { up = up; progress = slice_set st.progress pass.number new }) after
    put_shown up new over is up_is up_frames fates =
        let set = slice_set st.progress pass.number new in
        let frames : (m : ℕ) → HasGoneUp calls m → down_frame s calls st m ≡ s.serve_down (over_in (slice_get set m)) (frame_in (up_answer (calls ++ more) m)) =
        λ m went i. s.serve_down (over_set st.progress pass.number (Entered admitted pass.version) new m entered refl over i) (kept_frame calls more m went i) in
        let now : State = record st { up = up; progress = set } in
        subst (IsShown s (calls ++ more) now) (sym is)
        (moved_shown s calls (calls ++ more) st now c (record c { up = after.up; fates = after.fates }) h refl refl h.passes up_is up_frames
        (λ j n need at. frames n (held_gone j n need at)) h.down (λ k item e. h.down_frames k item e ∙ frames item.0 (down_gone k item e))
        (fates ∙ ap (λ l. slice_set l pass.number (fate_of new)) h.fates ∙ sym (map-set fate_of st.progress pass.number new)) h.events h.idle)

    -- the switch finishes its packet
    pub finish_shown : (verdict : Verdict) → pass.pre ≡ true → up_answer (calls ++ more) pass.number ≡ Some (Finished verdict)
        → after ≡ record c { fates = after.fates }
        → after.fates.items ≡ slice_set c.fates.items pass.number (fates_of.finished c.events pass.version verdict (slice_get c.fates.items pass.number))
        → IsShown s (calls ++ more) (came_to (journal s (calls ++ more)) st pass true) after
    finish_shown verdict pre answer is fates =
        let n = pass.number in
        let a = journal s (calls ++ more) in
        let new : Progress = Fast admitted st.events pass.version verdict in
        let first : came_to a st pass true ≡ came_in st n (verdict_in (up_answer (calls ++ more) n)) = rw pre refl in
        let second : came_in st n (verdict_in (up_answer (calls ++ more) n)) ≡ came_in st n (Some verdict) = ap (λ u. came_in st n (verdict_in u)) answer in
        let last : came_in st n (Some verdict) ≡ record st { progress = slice_set st.progress n new } =
        ap (λ p. record st { progress = slice_set st.progress n (finished st.events verdict p) }) entered in
        let made : fates_of.finished c.events pass.version verdict (slice_get c.fates.items n) ≡ fate_of new =
        ap (fates_of.finished c.events pass.version verdict) was_pass ∙ ap (λ e. fate.Fast admitted e pass.version e verdict) h.events in
        let up : after.up ≡ c.up = ap (λ (z : Course). z.up) is in
        subst (λ w. IsShown s (calls ++ more) w after) (sym (first ∙ second ∙ last))
        (put_shown st.up new refl (is ∙ (λ i. record c { up = sym up i; fates = after.fates })) (ap (λ q. map number_of q.items) up ∙ h.up)
        (λ k item e. up_stays k item (sym (ap (λ q. slice_get q.items k) up) ∙ e)) (fates ∙ ap (slice_set c.fates.items n) made))

    -- it goes up
    pub send_up_shown : (frame : List ℕ) → pass.pre ≡ true → up_answer (calls ++ more) pass.number ≡ Some (SentUp frame)
        → after ≡ record c { up = after.up; fates = after.fates } → after.up.items ≡ c.up.items ++ (pass.number, frame) ∷ []
        → after.fates.items ≡ slice_set c.fates.items pass.number (fates_of.went_up (slice_get c.fates.items pass.number))
        → IsShown s (calls ++ more) (came_to (journal s (calls ++ more)) st pass true) after
    send_up_shown frame pre answer is up fates =
        let n = pass.number in
        let a = journal s (calls ++ more) in
        let new : Progress = Up admitted in
        let first : came_to a st pass true ≡ came_in st n (verdict_in (up_answer (calls ++ more) n)) = rw pre refl in
        let second : came_in st n (verdict_in (up_answer (calls ++ more) n)) ≡ came_in st n None = ap (λ u. came_in st n (verdict_in u)) answer in
        let last : came_in st n None ≡ record st { up = st.up ++ n ∷ []; progress = slice_set st.progress n new } =
        ap (λ p. record st { up = st.up ++ n ∷ []; progress = slice_set st.progress n (went_up p) }) entered in
        let made : fates_of.went_up (slice_get c.fates.items n) ≡ fate_of new = ap fates_of.went_up was_pass in
        subst (λ w. IsShown s (calls ++ more) w after) (sym (first ∙ second ∙ last))
        (put_shown (st.up ++ n ∷ []) new refl is (ap (map number_of) up ∙ map_push number_of c.up.items (n, frame) ∙ ap (λ l. l ++ n ∷ []) h.up)
        (λ k item e. elim (get_before_pushed c.up.items (n, frame) item k (sym (ap (λ l. slice_get l k) up) ∙ e)) [
          | inl p ↦ subst (λ (z : ℕ × List ℕ). up_answer (calls ++ more) z.0 ≡ Some (SentUp z.1)) p.1 answer
          | inr r ↦ up_stays k item r
        ]) (fates ∙ ap (slice_set c.fates.items n) made))

  -- a packet that came down is released
  pub release_shown : (verdict : Verdict) → pass.pre ≡ false → IsHeld st pass.number → HavePlaces (came_to (journal s (calls ++ more)) st pass true)
      → down_answer (calls ++ more) pass.number ≡ Some verdict → after ≡ record c { fates = after.fates }
      → after.fates.items ≡ slice_set c.fates.items pass.number (fates_of.released c.events verdict (slice_get c.fates.items pass.number))
      → IsShown s (calls ++ more) (came_to (journal s (calls ++ more)) st pass true) after
  release_shown verdict post held places answer is fates =
      let n = pass.number in
      let all = calls ++ more in
      let a = journal s all in
      let new : Progress = Slow held.0 held.1 held.2 verdict st.events in
      let set = slice_set st.progress n new in
      let first : came_to a st pass true ≡ came_out st n (λ over. a.post over n) = rw post refl in
      let second : came_out st n (λ over. a.post over n) ≡ record st { progress = slice_set st.progress n (Slow held.0 held.1 held.2 (told (down_answer all n)) st.events) } =
      ap (λ p. record st { progress = slice_set st.progress n (released (λ over. a.post over n) st.events p) }) held.4 in
      let last : record st { progress = slice_set st.progress n (Slow held.0 held.1 held.2 (told (down_answer all n)) st.events) } ≡ record st { progress = set } =
      ap (λ v. record st { progress = slice_set st.progress n (Slow held.0 held.1 held.2 (told v) st.events) }) answer in
      let next = first ∙ second ∙ last in
      let now : HavePlaces (record st { progress = set }) = subst HavePlaces next places in
      let there : slice_get set n ≡ Some new = get_set_same st.progress n _ new held.4 in
      let frames : (m : ℕ) → HasGoneUp calls m → IsHeld (record st { progress = set }) m
      → down_frame s calls st m ≡ s.serve_down (over_in (slice_get set m)) (frame_in (up_answer all m)) = λ m went holds.
      let other = not_held (record st { progress = set }) m n new holds there (λ x d v over e. cc) in
      λ i. s.serve_down (over_in (sym (get_set_other st.progress n m new other) i)) (kept_frame calls more m went i) in
      let was : slice_get c.fates.items n ≡ Some (fate.Held held.0 held.1 held.2) = ap (λ l. slice_get l n) h.fates ∙ slice_get-map fate_of st.progress n ∙ ap (option_map fate_of) held.4 in
      let made : fates_of.released c.events verdict (slice_get c.fates.items n) ≡ fate_of new =
      ap (fates_of.released c.events verdict) was ∙ ap (λ e. fate.Slow held.0 held.1 held.2 e verdict) h.events in
      subst (λ w. IsShown s all w after) (sym next) (subst (IsShown s all (record st { progress = set })) (sym is)
      (moved_shown s calls all st (record st { progress = set }) c (record c { fates = after.fates }) h refl refl h.passes h.up up_stays
      (λ j m need at. frames m (held_gone j m need at) (now.held j m need at)) h.down
      (λ k item e. h.down_frames k item e ∙ frames item.0 (down_gone k item e) (now.down k item.0 (down_at s calls st c h k item e)))
      (fates ∙ ap (slice_set c.fates.items n) made ∙ ap (λ l. slice_set l n (fate_of new)) h.fates ∙ sym (map-set fate_of st.progress n new)) h.events h.idle))
