-- What holds of every run, whatever the schedule.
use Rattle.packet_fields.specs.declared.verdict.Verdict.TheVariants as verdict
use Rattle.std.proofs.Common.{refl, arith, inl, inr, sym, ◌∙◌, ap, subst, suc}
use Rattle.std.specs.Prelude.{IsTrue, List, None, Some, [], false, is_some, length, map, nat_lt, remove, slice_get, slice_set, take, true, ℕ, ◌++◌, ◌+◌, ◌<◌, ◌↔◌, ◌∷◌, ◌≡◌, ◌≤◌}
use Rattle.output_commit.specs.Batches.{Batch, commands_in, fits}
use Rattle.packet_fields.specs.declared.packet.Packet.{Packet}
use Rattle.packet_fields.specs.declared.verdict.Verdict.{Verdict}
use Rattle.run_model.specs.Meaning.{packet_at}
use Rattle.run_model.specs.Order.{order_of}
use Rattle.run_model.specs.Serialises.{AllReleased, IsDrained, Serialises, is_fast, is_passing}
use Rattle.run_model.specs.declared.event.Event.{Event}
use Rattle.run_model.specs.declared.event.Event.TheVariants.{Admit, Down}
use Rattle.state_store.specs.Kept.{IsKept}
use Rattle.state_store.specs.Store.{Store, start_store}
use Rattle.writeback_table.specs.Batches.{count_of}
use Rattle.writeback_table.specs.Commands.{ons}
use Rattle.writeback_table.specs.declared.command.Update.{Update}
use Rattle.replay_state.proofs.Applied.{counted_so}
use Rattle.replay_state.proofs.CommandsInOrder.{applied_step}
use Rattle.replay_state.proofs.Drained.{cost_now, drained_has_none, none_is_drained, picked_are, picked_few, picks_all, picks_first, picks_within}
use Rattle.replay_state.proofs.DrainBound.{cost_step, lowers}
use Rattle.replay_state.proofs.Effects.{shown_le}
use Rattle.replay_state.proofs.InvariantKept.{kept_of}
use Rattle.replay_state.proofs.Plain.{plain_sound}
use Rattle.replay_state.proofs.Runs.{store_kept}
use Rattle.replay_state.proofs.EveryState.{every_of, every_steps}
use Rattle.replay_state.proofs.Seen.{newest_tables, seen_from, stored_of}
use Rattle.replay_state.proofs.Serialised.{complete_from, newest_from, quiet_parts, serialises_from, shown_from}
use Rattle.replay_state.proofs.Views.{keep_views}
use Rattle.std.proofs.lemmas.Bool.{and_from, and_parts, cases_Bool, eqb-true, cases_eq}
use Rattle.std.proofs.lemmas.List.{length-map}
use Rattle.output_commit.proofs.FitsByCount.{few as fits_each, held_by}
use Rattle.replay_state.proofs.Carried.{carried_first}
use Rattle.replay_state.proofs.Fates.{at_first, at_last, at_up}
use Rattle.run_model.proofs.Members.{get_member}
use Rattle.replay_state.proofs.AlikeAnswers.{step_alike}
use Rattle.replay_state.proofs.Answered.{AllThere, all_asked, cover_steps, down_append, next_answered, picks_stay, questions_append, run_stays, there_parts, up_append}
use Rattle.replay_state.proofs.AtOnce.{comes_out, fast_at_once, none_steps, slow_at_once}
use Rattle.replay_state.proofs.BitCounts.{bit_counts, by_counts}
use Rattle.replay_state.proofs.Gone.{none_down, none_up, or_found}
use Rattle.replay_state.proofs.Numbered.{down_numbered}
use Rattle.replay_state.proofs.Once.{end_once}
use Rattle.replay_state.proofs.Placed.{comes_once, down_there, held_there, passes_once}
use Rattle.replay_state.proofs.Settled.{fast_by_seen, settled_at_once}
use Rattle.replay_state.proofs.History.{updates_in}
use Rattle.replay_state.proofs.Steady.{turn_all}
use Rattle.replay_state.proofs.WholePackets.{next_tied}
use Rattle.replay_state.specs.Agree.{Agree, AgreeOn}
use Rattle.replay_state.specs.Answers.{Answers, Setup, meaning_of}
use Rattle.replay_state.specs.Carried.{Carried}
use Rattle.replay_state.specs.Commands.{applied_by, offs}
use Rattle.replay_state.specs.Drain.{Drains, IsFirstOf, Picks, drain_bound, drain_events, drain_order, events_left, is_drained, is_quiet, next_event}
use Rattle.replay_state.specs.Examples.{half_sent, main_waits, one_drained, some_updates, stage_waits, two_batches, two_drained}
use Rattle.replay_state.specs.Journal.{Call, DownFramesAre, EndOnce, FramesAre, HasGoneUp, IsAnswerIn, IsAnswered, IsNumbered, UpAnswer, asked, down_answer, down_ends, journal, question_of, up_answer, up_ends, frame_in, ends_up, or_else, questions}
use Rattle.replay_state.specs.Places.{HavePlaces}
use Rattle.replay_state.specs.Program.{Fits, IsSplitProgram, Manner, SplitProgram, plain, setup_of}
use Rattle.replay_state.specs.Run.{job_run, seen_store}
use Rattle.replay_state.specs.SoundAnswers.{AreFew, AreSound}
use Rattle.replay_state.specs.State.{Fast, Held, Pass, Slow, State, Up, applied_commands, bit_behind, fate_of, first_state, seen, store_at, Entered}
use Rattle.replay_state.specs.Step.{applies, idled, pass_of, state_of, step, steps, tick}
use Rattle.replay_state.specs.Tables.{HasNewestTables, IsSeen}
use Rattle.replay_state.specs.Tied.{HasFrames, IsRight, IsTied, Tells, IsSentUp}
use Rattle.replay_state.specs.Views.{KeepViews, Sees}

-- Whole runs of a split program are sound answers. No run of the server makes more changes than there are instructions
-- for them, also where a switch answered the frames.
pub whole_runs_are_sound-sound : (s : SplitProgram) (packets : List Packet) (manner : Manner)
    → IsSplitProgram s packets → AreSound (setup_of s packets manner) (plain s packets)
whole_runs_are_sound-sound = plain_sound

pub whole_runs_are_sound-few : (s : SplitProgram) (packets : List Packet) (manner : Manner)
    → IsSplitProgram s packets → AreFew (setup_of s packets manner) (plain s packets)
whole_runs_are_sound-few s packets manner law = record { each = λ n store. law.few store (packet_at packets n) }

pub whole_runs_are_sound-few_answered : (s : SplitProgram) (packets : List Packet) (manner : Manner) (calls : List Call)
    → IsSplitProgram s packets → AreFew (setup_of s packets manner) (journal s calls)
whole_runs_are_sound-few_answered s packets manner calls law = record { each = λ n store. law.few_served store (frame_in (up_answer calls n)) }

-- A batch takes up just what finds room to be staged with it, and nothing in a run whose batches go by themselves.
pub batches_take_up_what_fits : (s : SplitProgram) (packets : List Packet) (manner : Manner) (updates : List Update)
    → ((setup_of s packets manner).fits updates ≡ true) ↔ Fits s manner updates
batches_take_up_what_fits s packets manner us = (
  (λ f. let parts = and_parts manner.merges (fits s.writeback us) f in
      record { merges = parts.0; room = fits_each s.writeback us parts.1 }),
  (λ f. and_from manner.merges (fits s.writeback us) f.merges (held_by s.writeback us f.room)),
)

-- Whatever a switch answers, its calls determine the state, and those of one event more stand behind the others. One
-- call has ended each pass that has ended, and calls that ended no pass of a packet answer nothing of it. Each packet
-- that is at the server, or on its way there or down, went up in a frame that a call answered; and the frames that
-- come down have the numbers of their packets, where those that went up have them.
pub a_run_is_answered_by_its_calls-first : (setup : Setup) (s : SplitProgram) (packets : List Packet)
    → IsAnswered setup s packets [] [] (first_state (start_store setup.objects))
a_run_is_answered_by_its_calls-first setup s packets = record { run = refl; asked = refl }

pub a_run_is_answered_by_its_calls-step : (setup : Setup) (s : SplitProgram) (packets : List Packet) (events : List Event) (event : Event)
    (calls one : List Call) (st : State)
    → IsAnswered setup s packets events calls st
    → map question_of one ≡ asked setup s packets (calls ++ one) st event
    → IsAnswered setup s packets (events ++ event ∷ []) (calls ++ one)
    (step setup (journal s (calls ++ one)) st event)
a_run_is_answered_by_its_calls-step = next_answered

pub a_run_is_answered_by_its_calls-one : (setup : Setup) (s : SplitProgram) (packets : List Packet) (events : List Event) (calls : List Call)
    (st other : State) → IsAnswered setup s packets events calls st → IsAnswered setup s packets events calls other
    → st ≡ other
a_run_is_answered_by_its_calls-one setup s packets events calls st other h k = h.run ∙ sym k.run

pub a_run_is_answered_by_its_calls-state_stays : (setup : Setup) (s : SplitProgram) (packets : List Packet) (events : List Event)
    (calls more : List Call) (st : State) → IsAnswered setup s packets events calls st
    → st ≡ state_of setup (journal s (calls ++ more)) events
a_run_is_answered_by_its_calls-state_stays setup s packets events calls more st h =
    let begin = first_state (start_store setup.objects) in
    h.run ∙ (run_stays setup s packets calls more begin events (all_asked setup s packets events calls st h)
    (carried_first (HasGoneUp calls) (start_store setup.objects))).0

pub a_run_is_answered_by_its_calls-picked_stay : (setup : Setup) (s : SplitProgram) (packets : List Packet) (events behind : List Event)
    (calls more : List Call) (st : State) → IsAnswered setup s packets (events ++ behind) calls st
    → Picks setup (journal s calls) (state_of setup (journal s calls) events) behind
    → Picks setup (journal s (calls ++ more)) (state_of setup (journal s (calls ++ more)) events) behind
a_run_is_answered_by_its_calls-picked_stay setup s packets events behind calls more st h picks =
    let begin = first_state (start_store setup.objects) in
    let now = state_of setup (journal s calls) events in
    let qs = questions setup s packets calls begin events in
    let rest = questions setup s packets calls now behind in
    let split = questions_append setup s packets calls begin events behind in
    let parts = there_parts setup s calls qs rest (subst (AllThere setup s calls) split (all_asked setup s packets (events ++ behind) calls st h)) in
    let known = carried_first (HasGoneUp calls) (start_store setup.objects) in
    subst (λ w. Picks setup (journal s (calls ++ more)) w behind) (run_stays setup s packets calls more begin events parts.0 known).0
    (picks_stay setup s packets calls more now behind parts.1 (cover_steps setup s packets calls begin events parts.0 known) picks)

pub a_run_is_answered_by_its_calls-once : (setup : Setup) (s : SplitProgram) (packets : List Packet) (events : List Event)
    (calls : List Call) (st : State) → IsAnswered setup s packets events calls st → EndOnce calls st
a_run_is_answered_by_its_calls-once setup s packets events calls st h = end_once setup s packets calls events st h

pub a_run_is_answered_by_its_calls-gone : (setup : Setup) (s : SplitProgram) (packets : List Packet) (events : List Event)
    (calls : List Call) (st : State) → IsAnswered setup s packets events calls st → Carried (HasGoneUp calls) st
a_run_is_answered_by_its_calls-gone setup s packets events calls st h =
    let begin = start_store setup.objects in
    subst (Carried (HasGoneUp calls)) (sym h.run)
    (cover_steps setup s packets calls (first_state begin) events (all_asked setup s packets events calls st h) (carried_first (HasGoneUp calls) begin))

pub a_run_is_answered_by_its_calls-found : (calls : List Call) (n : ℕ) (answer : UpAnswer)
    → up_answer calls n ≡ Some answer → IsAnswerIn calls n answer
a_run_is_answered_by_its_calls-found [] n answer h = cc
a_run_is_answered_by_its_calls-found (call ∷ calls) n answer h = elim (or_found (ends_up n call) (up_answer calls n) answer h) [
  | inl here ↦ (0, call, refl, here)
  | inr later ↦ let r = a_run_is_answered_by_its_calls-found calls n answer later in (suc r.0, r.1, r.2, r.3)
]

pub a_run_is_answered_by_its_calls-fresh_up : (calls more : List Call) (n : ℕ)
    → up_ends n calls ≡ 0 → up_answer (calls ++ more) n ≡ up_answer more n
a_run_is_answered_by_its_calls-fresh_up calls more n h = up_append calls more n ∙ ap (λ o. or_else o (up_answer more n)) (none_up calls n h)

pub a_run_is_answered_by_its_calls-fresh_down : (calls more : List Call) (n : ℕ)
    → down_ends n calls ≡ 0 → down_answer (calls ++ more) n ≡ down_answer more n
a_run_is_answered_by_its_calls-fresh_down calls more n h = down_append calls more n ∙ ap (λ o. or_else o (down_answer more n)) (none_down calls n h)

pub a_run_is_answered_by_its_calls-numbered : (s : SplitProgram) (packets : List Packet) (manner : Manner) (events : List Event)
    (calls : List Call) (st : State) → HasFrames s packets
    → IsAnswered (setup_of s packets manner) s packets events calls st → FramesAre (IsNumbered s) calls
    → DownFramesAre (IsNumbered s) calls
a_run_is_answered_by_its_calls-numbered s packets manner events calls st frames h are =
    down_numbered (setup_of s packets manner) s packets calls are frames.numbered events st h

-- Over a switch that tells its tables the state is that of whole packets, from the start and after each event.
pub a_told_step_keeps_the_tie-first : (s : SplitProgram) (packets : List Packet) (manner : Manner)
    → IsSplitProgram s packets → HasFrames s packets
    → IsTied (setup_of s packets manner) s packets [] [] (first_state (start_store s.objects))
a_told_step_keeps_the_tie-first s packets manner law frames =
    record { same = refl; framed = carried_first (IsSentUp s packets []) (start_store s.objects) }

pub a_told_step_keeps_the_tie-step : (s : SplitProgram) (packets : List Packet) (manner : Manner) (events : List Event) (event : Event)
    (calls one : List Call) (st : State)
    → IsSplitProgram s packets → HasFrames s packets
    → (let setup = setup_of s packets manner in
    IsTied setup s packets calls events st
    → (applies setup st event ≡ true → Tells setup s packets (calls ++ one) st event)
    → IsTied setup s packets (calls ++ one) (events ++ event ∷ [])
    (step setup (journal s (calls ++ one)) st event))
a_told_step_keeps_the_tie-step s packets manner events event calls one st law frames t tells = next_tied s packets manner law frames events event calls one st t tells

-- An event that doesn't apply leaves all but its count and that of idle events; one that applies isn't idle.
pub an_event_applies_or_is_idle-idle : (setup : Setup) (a : Answers) (st : State) (event : Event)
    → applies setup st event ≡ false → step setup a st event ≡ idled (tick st)
an_event_applies_or_is_idle-idle setup a st event t = rw t refl

pub an_event_applies_or_is_idle-applied : (setup : Setup) (a : Answers) (st : State) (event : Event)
    → applies setup st event ≡ true → (step setup a st event).idle ≡ st.idle
an_event_applies_or_is_idle-applied setup a st event t = rw t (counted_so setup a st event t).1

pub an_event_applies_or_is_idle-counted : (setup : Setup) (a : Answers) (st : State) (event : Event)
    → (step setup a st event).events ≡ st.events + 1
an_event_applies_or_is_idle-counted setup a st event = elim (cases_Bool (applies setup st event)) [
  | inl t ↦ rw t (counted_so setup a st event t).0
  | inr t ↦ rw t refl
]

-- Whatever the schedule, the run is a serial run of whole packets: runs of the decided packets, one after the other in
-- the order that is told, do just what is told. Where nothing is left on its way, every admitted packet was released,
-- and lookups see the newest version; and a run that says `drained` has done so with the whole trace.
pub every_run_serialises-serialises : (setup : Setup) (a : Answers) (events : List Event)
    → AreSound setup a → Serialises (meaning_of setup a) (job_run setup a events)
every_run_serialises-serialises setup a events law = serialises_from setup a (state_of setup a events) (kept_of setup a law events)

pub every_run_serialises-quiet : (setup : Setup) (a : Answers) (events : List Event)
    → AreSound setup a → IsTrue (is_quiet (state_of setup a events))
    → AllReleased (meaning_of setup a) (job_run setup a events)
every_run_serialises-quiet setup a events law = complete_from setup a (state_of setup a events) (kept_of setup a law events)

pub every_run_serialises-drained : (setup : Setup) (a : Answers) (events : List Event)
    → AreSound setup a → (job_run setup a events).drained ≡ true
    → IsDrained (meaning_of setup a) (job_run setup a events)
every_run_serialises-drained setup a events law drained =
    let w = state_of setup a events in
    let parts = and_parts _ _ drained in
    record {
      all = length-map w.progress fate_of ∙ eqb-true _ _ parts.0;
      complete = every_run_serialises-quiet setup a events law parts.1;
      shown = shown_from setup a w (kept_of setup a law events) parts.1;
    }

pub every_run_serialises-newest : (setup : Setup) (a : Answers) (events : List Event)
    → AreSound setup a → IsTrue (is_quiet (state_of setup a events))
    → seen (state_of setup a events) ≡ (state_of setup a events).version
every_run_serialises-newest setup a events law = newest_from (state_of setup a events) (every_of setup a events).consistent

-- Drain picks the first event of its list that applies, and none just where the run is drained. Where no run of the
-- server makes more changes than there are instructions for them, it drains each run, by one list of events, which is
-- within its bound: how many events are left never rises, and falls by each that applies.
pub drain_ends-picks : (setup : Setup) (st : State) (event : Event)
    → next_event setup st ≡ Some event → IsFirstOf (applies setup st) drain_order event
drain_ends-picks = picks_first

pub drain_ends-stops : (setup : Setup) (a : Answers) (events : List Event)
    → (next_event setup (state_of setup a events) ≡ None) ↔ (is_drained setup (state_of setup a events) ≡ true)
drain_ends-stops setup a events =
    let k = every_of setup a events in
    (none_is_drained setup (state_of setup a events) k, drained_has_none setup (state_of setup a events) k.consistent)

pub drain_ends-picked : (setup : Setup) (a : Answers) (events : List Event) → AreFew setup a
    → (let st = state_of setup a events in Drains setup a st (drain_events setup a st))
drain_ends-picked setup a events few =
    picks_all setup a few (drain_bound setup) (state_of setup a events) (every_of setup a events) (cost_now setup a few events)

pub drain_ends-drained : (setup : Setup) (a : Answers) (events : List Event) → AreFew setup a
    → (let st = state_of setup a events in
    is_drained setup (steps setup a st (drain_events setup a st)) ≡ true)
drain_ends-drained setup a events few =
    let w = state_of setup a events in
    let more = drain_events setup a w in
    none_is_drained setup (steps setup a w more) (every_steps setup a w more (every_of setup a events)) (drain_ends-picked setup a events few).1

pub drain_ends-one : (setup : Setup) (a : Answers) (events more : List Event) → AreFew setup a
    → (let st = state_of setup a events in Drains setup a st more → more ≡ drain_events setup a st)
drain_ends-one setup a events more few drains =
    let w = state_of setup a events in
    let within = picks_within setup a few w more (every_of setup a events) drains.0 in
    let bound = cost_now setup a few events in
    sym (picked_are setup a (drain_bound setup) w more drains.0 drains.1 (omega arith))

pub drain_ends-bound : (setup : Setup) (a : Answers) (st : State)
    → length (drain_events setup a st) ≤ drain_bound setup
drain_ends-bound setup a st = picked_few setup a (drain_bound setup) st

pub drain_ends-more : (setup : Setup) (a : Answers) (st : State) (events : List Event) (event : Event)
    → Picks setup a st events → next_event setup (steps setup a st events) ≡ Some event
    → Picks setup a st (events ++ event ∷ [])
drain_ends-more setup a st [] event picks next = (next, tt)
drain_ends-more setup a st (e ∷ es) event picks next = (picks.0, drain_ends-more setup a (step setup a st e) es event picks.1 next)

pub drain_ends-left : (setup : Setup) (a : Answers) (events : List Event) → AreFew setup a
    → events_left setup (state_of setup a events) ≤ drain_bound setup
drain_ends-left setup a events few = cost_now setup a few events

pub drain_ends-falls : (setup : Setup) (a : Answers) (events : List Event) (event : Event) → AreFew setup a
    → (let st = state_of setup a events in
    applies setup st event ≡ true → events_left setup (step setup a st event) < events_left setup st)
drain_ends-falls setup a events event few t = rw t (lowers setup a few (state_of setup a events) event (every_of setup a events) t)

pub drain_ends-stays : (setup : Setup) (a : Answers) (events : List Event) (event : Event) → AreFew setup a
    → (let st = state_of setup a events in events_left setup (step setup a st event) ≤ events_left setup st)
drain_ends-stays setup a events event few = cost_step setup a few (state_of setup a events) event (every_of setup a events)

-- At every point of a run, lookups of replicated objects see the store with which the visible version began, and the
-- next command finds room, also where batches are taken up.
pub lookups_see_one_version : (setup : Setup) (a : Answers) (events : List Event)
    → AreSound setup a → IsSeen setup (state_of setup a events)
lookups_see_one_version setup a events law = seen_from setup (state_of setup a events) (stored_of setup a law events).own.history

-- The store of the server, and those with which the versions began, keep what was declared.
pub stores_keep_what_was_declared-server : (setup : Setup) (a : Answers) (events : List Event)
    → AreSound setup a → IsKept setup.objects (state_of setup a events).store
stores_keep_what_was_declared-server setup a events law =
    store_kept setup a (start_store setup.objects) law law.start (state_of setup a events) (kept_of setup a law events).own

pub stores_keep_what_was_declared-begun : (setup : Setup) (a : Answers) (events : List Event) (version : ℕ)
    → AreSound setup a → version ≤ (state_of setup a events).version
    → IsKept setup.objects (store_at (state_of setup a events).stores version)
stores_keep_what_was_declared-begun setup a events version law = (kept_of setup a law events).own.kept version

pub stores_keep_what_was_declared-seen : (setup : Setup) (a : Answers) (events : List Event)
    → AreSound setup a → IsKept setup.objects (seen_store (state_of setup a events))
stores_keep_what_was_declared-seen setup a events law =
    let st = state_of setup a events in
    stores_keep_what_was_declared-begun setup a events (seen st) law (shown_le st st.done (every_of setup a events).consistent)

-- Where nothing is on its way, the switch has the replicated objects of the server, and nothing is staged.
pub a_quiet_switch_has_the_newest_tables : (setup : Setup) (a : Answers) (events : List Event)
    → AreSound setup a → IsTrue (is_quiet (state_of setup a events))
    → HasNewestTables setup (state_of setup a events)
a_quiet_switch_has_the_newest_tables setup a events law quiet =
    newest_tables setup (state_of setup a events) (stored_of setup a law events) (quiet_parts (state_of setup a events) quiet)

-- Each pass under way sees the objects of the version over which it entered, whatever commands are applied meanwhile.
pub passes_keep_their_views : (setup : Setup) (a : Answers) (events : List Event)
    → AreSound setup a → KeepViews setup (state_of setup a events)
passes_keep_their_views setup a events law = keep_views setup a law events

-- A switch whose answer is right over each store that the view of a pass shows answers right, over the version with
-- which the pass enters, or entered.
pub a_switch_that_tells_its_tables_answers_right-entering : (s : SplitProgram) (packets : List Packet) (manner : Manner) (events : List Event)
    (calls : List Call) → IsSplitProgram s packets
    → (let setup = setup_of s packets manner in
    let st = state_of setup (plain s packets) events in
    let n = length st.progress in
    ((store : Store) → IsKept s.objects store → Sees setup st (pass_of st true n setup.pre_stages) store
    → IsRight s store n (packet_at packets n) (up_answer calls n))
    → IsRight s (store_at st.stores (seen st)) n (packet_at packets n) (up_answer calls n))
a_switch_that_tells_its_tables_answers_right-entering s packets manner events calls law told =
    let setup = setup_of s packets manner in
    let a = plain s packets in
    let st = state_of setup a events in
    let sound = plain_sound s packets manner law in
    told (store_at st.stores (seen st)) (stores_keep_what_was_declared-seen setup a events sound) (lookups_see_one_version setup a events sound).shows

pub a_switch_that_tells_its_tables_answers_right-under_way : (s : SplitProgram) (packets : List Packet) (manner : Manner) (events : List Event)
    (calls : List Call) → IsSplitProgram s packets
    → (let setup = setup_of s packets manner in
    let st = state_of setup (plain s packets) events in
    (j : ℕ) (pass : Pass) → slice_get st.passes j ≡ Some pass
    → ((store : Store) → IsKept s.objects store → Sees setup st pass store
    → IsRight s store pass.number (packet_at packets pass.number) (up_answer calls pass.number))
    → IsRight s (store_at st.stores pass.version) pass.number (packet_at packets pass.number)
    (up_answer calls pass.number))
a_switch_that_tells_its_tables_answers_right-under_way s packets manner events calls law j pass g told =
    let setup = setup_of s packets manner in
    let st = state_of setup (plain s packets) events in
    let views = passes_keep_their_views setup (plain s packets) events (plain_sound s packets manner law) in
    told (store_at st.stores pass.version) (views.kept j pass g) (λ o rep. views.each j o pass g rep)

-- Each packet that is under way has come as far as the list says in which it stands.
pub packets_are_where_they_are_told : (setup : Setup) (a : Answers) (events : List Event) → HavePlaces (state_of setup a events)
packets_are_where_they_are_told setup a events =
    let w = state_of setup a events in
    let k = (every_of setup a events).consistent in
    record {
      entered = λ j x g t.
          let fate = at_first w j x k.places g t in
          let version = k.needs.firsts x fate.0 fate.1 (get_member w.passes j x g) t fate.2 in
          (fate.0, fate.2 ∙ ap (λ v. Some (Entered fate.0 v)) version);
      up = λ j n g. at_up w j n k.places g;
      held = λ j n need g. held_there w j n need k g;
      down = λ j n g. down_there w j n k g;
      behind = λ j x g t. at_last w j x k.places g t;
      comes_once = λ i j n x g h t e. comes_once w i j n x k.places g h t e;
      passes_once = λ i j x y g h s e. elim (cases_eq i j) [
        | inl same ↦ same
        | inr other ↦ absurd (passes_once w i j x y y.pre k.places g h s refl e other)
      ];
    }

-- A state that is stepped with other answers is the same, where they agree on all that is asked.
pub answers_that_agree_lead_to_one_state-step : (setup : Setup) (a b : Answers) (st : State) (event : Event)
    → (applies setup st event ≡ true → AgreeOn setup a b st event) → step setup a st event ≡ step setup b st event
answers_that_agree_lead_to_one_state-step = step_alike

pub answers_that_agree_lead_to_one_state-steps : (setup : Setup) (a b : Answers) (st : State) (events : List Event)
    → Agree setup a b st events → steps setup a st events ≡ steps setup b st events
answers_that_agree_lead_to_one_state-steps setup a b st [] h = refl
answers_that_agree_lead_to_one_state-steps setup a b st (event ∷ events) h =
    answers_that_agree_lead_to_one_state-steps setup a b (step setup a st event) events h.1
    ∙ ap (λ w. steps setup b w events) (step_alike setup a b st event h.0)

-- Where passes have no stages, they end at the event at which they enter, and none is under way.
pub passes_with_no_stages_end_at_once-fast : (setup : Setup) (a : Answers) (st : State) (y : Verdict)
    → setup.pre_stages ≡ 0 → applies setup st Admit ≡ true
    → a.pre (store_at st.stores (seen st)) (length st.progress) ≡ Some y
    → step setup a st Admit ≡ record (tick st) {
      progress = st.progress ++ Fast (st.events + 1) (st.events + 1) (seen st) y ∷ [];
    }
passes_with_no_stages_end_at_once-fast = fast_at_once

pub passes_with_no_stages_end_at_once-slow : (setup : Setup) (a : Answers) (st : State)
    → setup.pre_stages ≡ 0 → applies setup st Admit ≡ true
    → a.pre (store_at st.stores (seen st)) (length st.progress) ≡ None
    → step setup a st Admit ≡ record (tick st) {
      up = st.up ++ length st.progress ∷ [];
      progress = st.progress ++ Up (st.events + 1) ∷ [];
    }
passes_with_no_stages_end_at_once-slow = slow_at_once

pub passes_with_no_stages_end_at_once-down : (setup : Setup) (a : Answers) (st : State) (j n e d v : ℕ) (over : Store)
    → setup.post_stages ≡ 0 → applies setup st (Down j) ≡ true → slice_get st.down j ≡ Some n
    → slice_get st.progress n ≡ Some (Held e d v over)
    → step setup a st (Down j) ≡ record (tick st) {
      down = remove st.down j;
      progress = slice_set st.progress n (Slow e d v (a.post over n) (st.events + 1));
    }
passes_with_no_stages_end_at_once-down setup a st j n e d v over none t g h = rw t (comes_out setup a st j n e d v over (slice_get st.down j) none g h)

pub passes_with_no_stages_end_at_once-none : (setup : Setup) (a : Answers) (events : List Event)
    → setup.pre_stages ≡ 0 → setup.post_stages ≡ 0 → (state_of setup a events).passes ≡ []
passes_with_no_stages_end_at_once-none setup a events pre post = none_steps setup a (first_state (start_store setup.objects)) events pre post refl

-- Once its preprocessing has ended, a packet is told as fast just where it is fast over the store of the version that
-- lookups saw when it came in, whatever happens behind that. Where passes have no stages, it has ended then.
pub a_packet_is_fast_by_what_is_seen-settled : (setup : Setup) (a : Answers) (events more : List Event)
    → (let st = state_of setup a events in
    let fate = slice_get (job_run setup a (events ++ Admit ∷ more)).fates (length st.progress) in
    applies setup st Admit ≡ true → is_passing fate ≡ false
    → is_fast fate ≡ is_some (a.pre (seen_store st) (length st.progress)))
a_packet_is_fast_by_what_is_seen-settled = fast_by_seen

pub a_packet_is_fast_by_what_is_seen-at_once : (setup : Setup) (a : Answers) (events more : List Event)
    → (let st = state_of setup a events in
    let fate = slice_get (job_run setup a (events ++ Admit ∷ more)).fates (length st.progress) in
    setup.pre_stages ≡ 0 → applies setup st Admit ≡ true → is_passing fate ≡ false)
a_packet_is_fast_by_what_is_seen-at_once = settled_at_once

-- The bit stands just where more commands have set it than have cleared it.
pub the_bit_by_counts : (batches : List Batch) (n : ℕ)
    → (let first = take n (commands_in batches) in bit_behind batches n ≡ nat_lt (offs first) (ons first))
the_bit_by_counts batches n =
    let first = take n (commands_in batches) in
    by_counts (bit_behind batches n) (offs first) (ons first) (bit_counts false true (commands_in batches) n (turn_all true (updates_in batches)))

-- The commands that were applied are those before an event, and the next one behind them where the event applies it,
-- also where batches come or take up others.
pub commands_are_applied_in_order : (setup : Setup) (a : Answers) (events : List Event) (event : Event)
    → (let st = state_of setup a events in
    applied_commands (step setup a st event) ≡ applied_commands st ++ applied_by setup st event)
commands_are_applied_in_order setup a events event = applied_step setup a (state_of setup a events) event (every_of setup a events)

-- Runs whose numbers are known from outside.
pub worked_runs-waits : (main_waits.events ≡ 23) × (main_waits.idle ≡ 1) × (main_waits.version ≡ 1) × (seen main_waits ≡ 1)
    × (main_waits.progress ≡ Slow 1 6 1 verdict.Drop 23 ∷ (Held 5 17 1 [] ∷ []))
    × (order_of (map fate_of main_waits.progress) ≡ 0 ∷ (1 ∷ []))
worked_runs-waits = (refl, refl, refl, refl, refl, refl)

pub worked_runs-merged : (let st = two_batches true in
    (st.events ≡ 23) × (st.idle ≡ 0) × (st.version ≡ 2) × (seen st ≡ 2) × (length (commands_in st.batches) ≡ 14)
    × (st.progress ≡ Slow 1 3 1 verdict.Drop 22 ∷ (Slow 2 4 2 verdict.Drop 23 ∷ [])))
worked_runs-merged = (refl, refl, refl, refl, refl, refl)

pub worked_runs-apart : (let st = two_batches false in
    (st.events ≡ 23) × (st.idle ≡ 2) × (st.version ≡ 2) × (seen st ≡ 1)
    × (st.progress ≡ Slow 1 3 1 verdict.Drop 22 ∷ (Held 2 4 2 [] ∷ [])))
worked_runs-apart = (refl, refl, refl, refl, refl)

pub worked_runs-staged : (stage_waits.events ≡ 21) × (stage_waits.idle ≡ 1) × (stage_waits.version ≡ 2)
    × (stage_waits.done ≡ 6) × (seen stage_waits ≡ 1)
    × (stage_waits.progress ≡ Held 1 5 1 [] ∷ (Held 3 6 2 [] ∷ (Up 15 ∷ [])))
worked_runs-staged = (refl, refl, refl, refl, refl, refl)

pub worked_runs-half : (half_sent.events ≡ 15) × (half_sent.idle ≡ 0) × (half_sent.version ≡ 3) × (half_sent.sent ≡ 9)
    × (map (λ (b : Batch). b.versions) half_sent.batches ≡ 1 ∷ (2 ∷ []))
    × (length (commands_in half_sent.batches) ≡ 16)
worked_runs-half = (refl, refl, refl, refl, refl, refl)

pub worked_runs-doubles : count_of 0 (some_updates 2) ≡ 2
worked_runs-doubles = refl

pub worked_runs-drained : (one_drained.events ≡ 8) × (one_drained.progress ≡ Slow 1 5 0 verdict.Drop 8 ∷ [])
worked_runs-drained = (refl, refl)

pub worked_runs-in_turn : (two_drained.events ≡ 31) × (two_drained.idle ≡ 0) × (two_drained.version ≡ 1)
    × (two_drained.progress ≡ Slow 1 5 1 verdict.Drop 23 ∷ (Slow 24 28 1 verdict.Drop 31 ∷ []))
worked_runs-in_turn = (refl, refl, refl, refl)
