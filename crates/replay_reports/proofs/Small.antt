-- The numbers of a run: none is above the number of its events.
use Rattle.std.proofs.Common.{◌≡◌, ℕ, ◌+◌, ◌<◌, ◌≤◌, ◌^◌, true, false, List, [], ◌∷◌, ◌++◌, Option, Some, None}
use Rattle.std.proofs.Common.{IfSome, refl, ◌∙◌, arith, zero, suc, length, map}
use Rattle.std.specs.Prelude.{◌==◌, nat_le, slice_get, slice_set, remove}
use Rattle.std.specs.List.{AllByRecursion}
use Rattle.packet_fields.specs.declared.verdict.Verdict.{Verdict}
use Rattle.state_store.specs.Store.{Store}
use Rattle.writeback_table.specs.declared.command.Update.{Update}
use Rattle.run_model.specs.declared.event.Event.{Event}
use Rattle.run_model.specs.declared.event.Event.TheVariants.{Admit, Stage, Serve, Send, Hold, Down}
use Rattle.replay_state.specs.Answers.{Answers, Setup}
use Rattle.replay_state.specs.declared.pass.Pass.{Pass}
use Rattle.replay_state.specs.State.{State, Progress, Entered, Up, Held, Slow, Fast, fate_of, first_state, seen}
use Rattle.replay_state.specs.State.{store_at}
use Rattle.replay_state.specs.Step.{applies, happens, step, steps, tick, idled, finished, went_up, decided, released}
use Rattle.replay_state.specs.Step.{came_in, came_out, ended, entered, staged, pass_of, with_changes, ran, served}
use Rattle.replay_state.specs.Step.{let_go, came_down, admitted}
use Rattle.report_text.specs.Form.{IsVerdict, IsFate}
use Rattle.replay_state.proofs.Laws.{an_event_applies_or_is_idle-counted}
use Rattle.lemmas.proofs.Lists.{each_map, each_pushed, each_weaker}
use Rattle.replay_reports.proofs.Versions.{if_both, total, visible_low, total_more, total_merged}
use Rattle.output_commit.specs.Batches.{Batch}

-- ## What holds of one packet

-- every verdict is one that a report can tell
pub record TellVerdicts (a : Answers) : Type 0 where
  pub pre : (store : Store) (n : ℕ) → IfSome (a.pre store n) IsVerdict
  pub post : (store : Store) (n : ℕ) → IsVerdict (a.post store n)

-- so far there were so many events and so many versions
abbrev pub Fits : ℕ → ℕ → Progress → Type 0
Fits now version (Entered a v) = (a ≤ now) × (v ≤ version)
Fits now version (Up a) = a ≤ now
Fits now version (Held a d v over) = (a ≤ now) × (d ≤ now) × (v ≤ version)
Fits now version (Slow a d v y r) = (a ≤ now) × (d ≤ now) × (v ≤ version) × (r ≤ now) × IsVerdict y
Fits now version (Fast a d v y) = (a ≤ now) × (d ≤ now) × (v ≤ version) × IsVerdict y

later : (now version now' version' : ℕ) (p : Progress) → now ≤ now' → version ≤ version' → Fits now version p
    → Fits now' version' p
later now version now' version' (Entered a v) x y h = (omega arith, omega arith)
later now version now' version' (Up a) x y h = omega arith
later now version now' version' (Held a d v over) x y h = (omega arith, omega arith, omega arith)
later now version now' version' (Slow a d v w r) x y h = (omega arith, omega arith, omega arith, omega arith, h.4)
later now version now' version' (Fast a d v w) x y h = (omega arith, omega arith, omega arith, h.3)

up_fits : (now version : ℕ) (p : Option Progress) → IfSome p (Fits now version) → Fits now version (went_up p)
up_fits now version None h = omega arith
up_fits now version (Some (Entered a v)) h = h.0
up_fits now version (Some _) h = h

finished_fits : (now version : ℕ) (y : Verdict) (p : Option Progress) → IsVerdict y → IfSome p (Fits now version)
    → Fits now version (finished now y p)
finished_fits now version y None told h = omega arith
finished_fits now version y (Some (Entered a v)) told h = (h.0, omega arith, h.1, told)
finished_fits now version y (Some _) told h = h

decided_fits : (now version : ℕ) (over : Store) (p : Option Progress) → IfSome p (Fits now version)
    → Fits now version (decided now version over p)
decided_fits now version over None h = omega arith
decided_fits now version over (Some (Up a)) h = (h, omega arith, omega arith)
decided_fits now version over (Some _) h = h

released_fits : (now version : ℕ) (verdict : Store → Verdict) (p : Option Progress)
    → ((over : Store) → IsVerdict (verdict over)) → IfSome p (Fits now version)
    → Fits now version (released verdict now p)
released_fits now version verdict None told h = omega arith
released_fits now version verdict (Some (Held a d v over)) told h = (h.0, h.1, h.2, omega arith, told over)
released_fits now version verdict (Some _) told h = h

-- ## Lists

each_later : (now version now' version' : ℕ) (ps : List Progress) → now ≤ now' → version ≤ version'
    → AllByRecursion (Fits now version) ps → AllByRecursion (Fits now' version') ps
each_later now version now' version' ps x y all =
    each_weaker (Fits now version) (Fits now' version') (λ p h. later now version now' version' p x y h) ps all

at_place : (P : Progress → Type 0) (ps : List Progress) (n : ℕ) → AllByRecursion P ps → IfSome (slice_get ps n) P
at_place P [] n all = tt
at_place P (p ∷ ps) zero all = all.0
at_place P (p ∷ ps) (suc n) all = at_place P ps n all.1

each_set : (P : Progress → Type 0) (ps : List Progress) (n : ℕ) (p : Progress) → AllByRecursion P ps → P p
    → AllByRecursion P (slice_set ps n p)
each_set P [] n p all new = tt
each_set P (x ∷ ps) zero p all new = (new, all.1)
each_set P (x ∷ ps) (suc n) p all new = (all.0, each_set P ps n p all.1 new)

-- ## A state

-- so many versions and events of which so many were idle, and what became of each packet
pub record AreSmall (batches : List Batch) (made now unused : ℕ) (progress : List Progress) : Type 0 where
  pub versions : total batches ≡ made
  pub version : made ≤ now
  pub idle : unused ≤ now
  pub each : AllByRecursion (Fits now made) progress

abbrev pub IsSmallState : State → Type 0
IsSmallState st = AreSmall st.batches st.version st.events st.idle st.progress

-- one packet has gone on
gone_on : (st : State) (n : ℕ) (p : Progress) → IsSmallState st → Fits st.events st.version p
    → AreSmall st.batches st.version st.events st.idle (slice_set st.progress n p)
gone_on st n p h fits =
    record { versions = h.versions; version = h.version; idle = h.idle; each = each_set _ st.progress n p h.each fits }

came_in_small : (st : State) (n : ℕ) (verdict : Option Verdict) → IfSome verdict IsVerdict → IsSmallState st
    → IsSmallState (came_in st n verdict)
came_in_small st n None told h =
    gone_on st n _ h (up_fits st.events st.version (slice_get st.progress n) (at_place _ st.progress n h.each))
came_in_small st n (Some y) told h =
    gone_on st n _ h (finished_fits st.events st.version y (slice_get st.progress n) told (at_place _ st.progress n h.each))

came_out_small : (st : State) (n : ℕ) (verdict : Store → Verdict) → ((over : Store) → IsVerdict (verdict over))
    → IsSmallState st → IsSmallState (came_out st n verdict)
came_out_small st n verdict told h =
    gone_on st n _ h (released_fits st.events st.version verdict (slice_get st.progress n) told (at_place _ st.progress n h.each))

module _ (setup : Setup) (a : Answers) (told : TellVerdicts a) where
  ended_small : (st : State) (pass : Pass) → IsSmallState st → IsSmallState (ended a st pass)
  ended_small st pass h =
      if_both IsSmallState pass.pre (came_in st pass.number (a.pre (store_at st.stores pass.version) pass.number))
      (came_out st pass.number (λ over. a.post over pass.number))
      (came_in_small st pass.number (a.pre (store_at st.stores pass.version) pass.number)
      (told.pre (store_at st.stores pass.version) pass.number) h)
      (came_out_small st pass.number (λ over. a.post over pass.number) (λ over. told.post over pass.number) h)

  entered_small : (st : State) (pass : Pass) → IsSmallState st → IsSmallState (entered a st pass)
  entered_small st pass h =
      if_both IsSmallState (pass.left == 0) (ended a st pass) (record st { passes = st.passes ++ pass ∷ [] }) (ended_small st pass h) h

  staged_small : (st : State) (j : ℕ) (pass : Option Pass) → IsSmallState st → IsSmallState (staged a st j pass)
  staged_small st j None h = h
  staged_small st j (Some pass) h =
      let without : State = record st { passes = remove st.passes j } in
      if_both IsSmallState (nat_le pass.left 1) (ended a without pass) _
      (ended_small without pass h) h

  admitted_small : (st : State) → IsSmallState st → IsSmallState (admitted setup a st)
  admitted_small st h =
      let seen_low = visible_low st.batches st.done in
      let known = h.versions in
      let new : Fits st.events st.version (Entered st.events (seen st)) = (omega arith, omega arith) in
      entered_small (record st { progress = st.progress ++ Entered st.events (seen st) ∷ [] })
      (pass_of st true (length st.progress) setup.pre_stages)
      (record {
        versions = h.versions;
        version = h.version;
        idle = h.idle;
        each = each_pushed _ st.progress (Entered st.events (seen st)) h.each new;
      })

  came_down_small : (st : State) (j : ℕ) (n : Option ℕ) → IsSmallState st → IsSmallState (came_down setup a st j n)
  came_down_small st j None h = h
  came_down_small st j (Some n) h =
      entered_small (record st { down = remove st.down j }) (pass_of st false n setup.post_stages) h

  let_go_small : (st : State) (j : ℕ) (item : Option (ℕ × ℕ)) → IsSmallState st → IsSmallState (let_go st j item)
  let_go_small st j None h = h
  let_go_small st j (Some item) h = h

  -- where a version may begin
  changes_small : (store : Store) (updates : List Update) (st : State) → st.version < st.events → IsSmallState st
      → IsSmallState (with_changes store updates st)
  changes_small store [] st low h = h
  changes_small store (u ∷ us) st low h =
      let more = total_more st.batches (record { updates = u ∷ us; versions = 1 }) in
      let before = h.versions in
      record {
        versions = omega arith;
        version = omega arith;
        idle = h.idle;
        each = each_later st.events st.version st.events (st.version + 1) st.progress (omega arith) (omega arith) h.each;
      }

  ran_small : (before st : State) (j n : ℕ) → IsSmallState st → IsSmallState (ran a before st j n)
  ran_small before st j n h =
      gone_on st n _ h (decided_fits st.events st.version before.store (slice_get st.progress n) (at_place _ st.progress n h.each))

  served_small : (st : State) (j : ℕ) (n : Option ℕ) → st.version < st.events → IsSmallState st
      → IsSmallState (served a st j n)
  served_small st j None low h = h
  served_small st j (Some n) low h =
      ran_small st (with_changes (a.after st.store n) (a.changes st.store n) st) j n
      (changes_small (a.after st.store n) (a.changes st.store n) st low h)

  happens_small : (st : State) (event : Event) → st.version < st.events → IsSmallState st
      → IsSmallState (happens setup a st event)
  happens_small st Admit low h = admitted_small st h
  happens_small st (Stage j) low h = staged_small st j (slice_get st.passes j) h
  happens_small st (Serve j) low h = served_small st j (slice_get st.up j) low h
  happens_small st Send low h =
      record { versions = total_merged setup.fits st.sent st.batches ∙ h.versions; version = h.version; idle = h.idle; each = h.each }
  happens_small st (Hold j) low h = let_go_small st j (slice_get st.held j) h
  happens_small st (Down j) low h = came_down_small st j (slice_get st.down j) h
  happens_small st _ low h = h

  tick_small : (st : State) → IsSmallState st → IsSmallState (tick st)
  tick_small st h = let version = h.version in let idle = h.idle in record {
    versions = h.versions;
    version = omega arith;
    idle = omega arith;
    each = each_later st.events st.version (st.events + 1) st.version st.progress (omega arith) (omega arith) h.each;
  }

  idled_small : (st : State) → IsSmallState st → IsSmallState (idled (tick st))
  idled_small st h = let ticked = tick_small st h in let idle = h.idle in record {
    versions = ticked.versions;
    version = ticked.version;
    idle = omega arith;
    each = ticked.each;
  }

  step_small : (st : State) (event : Event) → IsSmallState st → IsSmallState (step setup a st event)
  step_small st event h =
      let version = h.version in
      if_both IsSmallState (applies setup st event) (happens setup a (tick st) event) (idled (tick st))
      (happens_small (tick st) event (omega arith) (tick_small st h)) (idled_small st h)

  pub steps_small : (st : State) (events : List Event) → IsSmallState st → IsSmallState (steps setup a st events)
  steps_small st [] h = h
  steps_small st (event ∷ events) h = steps_small (step setup a st event) events (step_small st event h)

  -- each event is counted
  pub steps_counted : (st : State) (events : List Event) → (steps setup a st events).events ≡ st.events + length events
  steps_counted st [] = omega arith
  steps_counted st (event ∷ events) =
      let one = an_event_applies_or_is_idle-counted setup a st event in
      let rest = steps_counted (step setup a st event) events in
      omega arith

pub first_small : (store : Store) → IsSmallState (first_state store)
first_small store = record { versions = refl; version = omega arith; idle = omega arith; each = tt }

-- ## What is told

told_fate : (now version : ℕ) (p : Progress) → now < 2 ^ 32 → version ≤ now → Fits now version p → IsFate (fate_of p)
told_fate now version (Held a d v over) low few h = (omega arith, omega arith, omega arith)
told_fate now version (Slow a d v y r) low few h = (omega arith, omega arith, omega arith, omega arith, h.4)
told_fate now version (Fast a d v y) low few h = (omega arith, omega arith, omega arith, omega arith, h.3)
told_fate now version _ low few h = omega arith

pub told_fates : (now version : ℕ) (ps : List Progress) → now < 2 ^ 32 → version ≤ now
    → AllByRecursion (Fits now version) ps → AllByRecursion IsFate (map fate_of ps)
told_fates now version ps low few all =
    each_map IsFate fate_of ps (each_weaker (Fits now version) (λ p. IsFate (fate_of p)) (λ p h. told_fate now version p low few h) ps all)
