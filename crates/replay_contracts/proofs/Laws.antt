-- How a replay over a switch begins, goes on and ends, whatever the switch answers, and what it promises where the
-- switch tells its tables.
use Rattle.std.proofs.Common.{Some, [], ap, cond, refl, subst, sym, true, ℕ, ◌∙◌, ◌≡◌}
use Rattle.std.specs.Prelude.{IsTrue, List, None, is_some, map, slice_get, ◌++◌, ◌∷◌, length, ◌≤◌}
use Rattle.replay_state.proofs.Laws.{a_packet_is_fast_by_what_is_seen-settled, a_quiet_switch_has_the_newest_tables, a_run_is_answered_by_its_calls-first, a_run_is_answered_by_its_calls-gone, a_run_is_answered_by_its_calls-numbered, a_run_is_answered_by_its_calls-once, a_run_is_answered_by_its_calls-one, a_run_is_answered_by_its_calls-picked_stay, a_run_is_answered_by_its_calls-state_stays, a_run_is_answered_by_its_calls-step, a_told_step_keeps_the_tie-first, a_told_step_keeps_the_tie-step, commands_are_applied_in_order, drain_ends-bound, drain_ends-one, drain_ends-stops, every_run_serialises-drained, every_run_serialises-quiet, every_run_serialises-serialises, lookups_see_one_version, packets_are_where_they_are_told, passes_keep_their_views, stores_keep_what_was_declared-seen, whole_runs_are_sound-few, whole_runs_are_sound-few_answered, whole_runs_are_sound-sound}
use Rattle.replay_state.specs.Commands.{applied_by}
use Rattle.replay_state.specs.Drain.{is_quiet, next_event, drain_bound, drain_events, is_drained}
use Rattle.replay_state.specs.Journal.{Call, IsAnswered, IsNumbered, SentUp, asked, journal, question_of, up_answer}
use Rattle.replay_state.specs.Places.{HavePlaces}
use Rattle.replay_state.specs.Run.{job_run, seen_store, run_of, seen_parts}
use Rattle.replay_state.specs.State.{State, applied_commands, first_state}
use Rattle.replay_state.specs.Step.{state_of, step}
use Rattle.replay_state.specs.Tables.{HasNewestTables, LookupsShow}
use Rattle.replay_state.specs.Views.{KeepViews}
use Rattle.run_model.specs.declared.event.Event.{Event}
use Rattle.run_model.specs.declared.run.Run.{Run}
use Rattle.switch_ir.specs.Staged.{staging}
use Rattle.split_answers.proofs.Laws.{a_switch_that_tells_its_tables_tells_right, frames_do_what_packets_do, quiet_tables_are_the_stores, split_programs_have_their_laws, told_rows_are_the_visible_stores, told_tables_are_those_of_the_commands, told_tables_start}
use Rattle.split_answers.specs.Through.{HasTables}
use Rattle.split_answers.specs.UnderWay.{AreOnSwitch}
use Rattle.state_store.specs.Kept.{IsKept}
use Rattle.state_store.specs.Store.{start_store, object_at, rows_of}
use Rattle.switch_ir.specs.Port.{PortState}
use Rattle.switch_ir.specs.Tables.{Told, pair_at}
use Rattle.switch_ir.specs.UnderWay.{HasGoneOn}
use Rattle.transfer_header.specs.Frames.{IsFrame}
use Rattle.writeback_table.specs.Pair.{visible, visible_rows}
use Rattle.replay_state.proofs.Gone.{Ended, ended_so}
use Rattle.std.proofs.lemmas.List.{append-nil, append_assoc}
use Rattle.run_model.specs.declared.run.ObjectRows.{ObjectRows}
use Rattle.run_model.specs.declared.event.Event.TheVariants.{Admit}
use Rattle.run_model.specs.Serialises.{is_fast, is_passing}
use Rattle.replay_state.specs.Program.{packet_at}
use Rattle.replay_contracts.proofs.Determined.{numbered_each, same_calls, same_head}
use Rattle.replay_contracts.proofs.Formed.{FormedFrame, frames_are}
use Rattle.replay_contracts.proofs.CallsOfEvent.{few_calls, more_calls, next_told}
use Rattle.replay_contracts.proofs.KnowingOn.{K, asked_at_stage, comes, last_right, moves, stays}
use Rattle.replay_contracts.proofs.OnSwitch.{none_on, of_state, to_state}
use Rattle.replay_contracts.proofs.PassesOfCall.{one_formed}
use Rattle.replay_contracts.proofs.PassingOn.{Free, Kept, around, rests_step, turn_step}
use Rattle.replay_contracts.proofs.DrainPicks.{picks_next, some_too, state_append}
use Rattle.replay_contracts.proofs.SeenStore.{parts_same, seen_of, some_where}
use Rattle.replay_contracts.proofs.PassMoves.{turn_all, turn_on}
use Rattle.replay_contracts.specs.Called.{IsFormed, WasCalled, journal_of}
use Rattle.replay_contracts.specs.Inputs.{Inputs, IsReady, code_for, setup_for, whole, whole_runs}
use Rattle.replay_contracts.specs.Promise.{Promises, Reports, state_for}
use Rattle.replay_contracts.specs.Replay.{HasDrained, HasPicked, IsLoaded, IsReplay, answered}
use Rattle.lemmas.proofs.Lists.{each_append}

-- A port that was loaded is a replay of no events.
pub a_replay_begins : (x : Inputs) (port : PortState) → IsReady x → IsLoaded x port
    → IsReplay x [] [] (first_state (start_store x.program.objects)) port
a_replay_begins x port ready loaded =
    let first = first_state (start_store x.program.objects) in
    let setup = setup_for x in
    record {
      answered = a_run_is_answered_by_its_calls-first setup (whole x) x.packets;
      called = loaded.called;
      formed = tt;
      passes = subst (AreOnSwitch setup x.packets first) (sym loaded.passes) (to_state setup x.packets first _ [] refl (none_on setup x.packets));
      told = λ tables is. record {
        tied = a_told_step_keeps_the_tie-first (whole x) x.packets x.manner
            (split_programs_have_their_laws x.program x.split x.writeback x.packets ready.split ready.arrivals)
            (frames_do_what_packets_do x.program x.split x.writeback x.packets ready.split ready.arrivals ready.few);
        through = told_tables_start (code_for x) tables (loaded.start tables is);
        views = λ j o pass here shown. cc;
        knows = λ j pass own here there. cc;
      };
    }

-- The calls that an event asks lead from one replay to the next, over any port.
pub a_replay_goes_on : (x : Inputs) (events : List Event) (event : Event) (calls one : List Call) (st : State)
    (old new : PortState)
    → IsReady x → IsReplay x events calls st old
    → map question_of one ≡ asked (setup_for x) (whole x) x.packets (calls ++ one) st event
    → WasCalled (code_for x) one old new
    → IsReplay x (events ++ event ∷ []) (calls ++ one)
    (step (setup_for x) (answered x (calls ++ one)) st event) new
a_replay_goes_on x events event calls one st old new ready h asks called =
    let setup = setup_for x in
    let s = whole x in
    let code = code_for x in
    let a = answered x (calls ++ one) in
    let next = step setup a st event in
    let law = split_programs_have_their_laws x.program x.split x.writeback x.packets ready.split ready.arrivals in
    let frames = frames_do_what_packets_do x.program x.split x.writeback x.packets ready.split ready.arrivals ready.few in
    let same = a_run_is_answered_by_its_calls-state_stays setup s x.packets events calls one st h.answered in
    let order = subst (λ (w : State). applied_commands (step setup a w event) ≡ applied_commands w ++ applied_by setup w event) (sym same)
    (commands_are_applied_in_order setup a events event) in
    let few = few_calls setup s x.packets (calls ++ one) one st event asks in
    let places = subst HavePlaces (sym h.answered.run) (packets_are_where_they_are_told setup (journal s calls) events) in
    let on = of_state setup x.packets st old.passes h.passes in
    let g = around setup s x.packets (calls ++ one) code st old in
    let turn = turn_step setup s x.packets (calls ++ one) one a code st old new
    (λ coarse. (ap (λ b. cond b s.pre_stages 0) coarse, ap (λ b. cond b s.post_stages 0) coarse))
    h.called.loaded places on called event asks in
    record {
      answered = a_run_is_answered_by_its_calls-step setup s x.packets events event calls one st h.answered asks;
      called = more_calls code calls one old new h.called called;
      formed = each_append (IsFormed code x.packets) calls one h.formed (one_formed setup x.packets code st one old new few h.called.loaded h.passes called);
      passes = to_state setup x.packets next new.passes next.passes refl
          (turn_on g (λ tables is. (h.told tables is).through.bit) (Free event) (Kept st next) st.passes next.passes old.passes new.passes places.passes_once on turn);
      told = next_told x events event calls one st old new h asks called order
          (λ before is told given over.
          let sound = whole_runs_are_sound-sound s x.packets x.manner law in
          let views = subst (KeepViews setup) (sym told.tied.same) (passes_keep_their_views setup (whole_runs x) events sound) in
          let kept = subst (λ (w : State). IsKept x.program.objects (seen_store w)) (sym told.tied.same) (stores_keep_what_was_declared-seen setup (whole_runs x) events sound) in
          let shows = seen_of x st (subst (λ (w : State). LookupsShow setup w (seen_store w)) (sym told.tied.same)
          (lookups_see_one_version setup (whole_runs x) events sound).shows) in
          let carried = a_run_is_answered_by_its_calls-gone setup s x.packets events calls st h.answered in
          let once = a_run_is_answered_by_its_calls-once setup s x.packets events calls st h.answered in
          let rests = rests_step setup a st places event in (
            a_told_step_keeps_the_tie-step s x.packets x.manner events event calls one st law frames told.tied
                (λ t. a_switch_that_tells_its_tables_tells_right x.program x.split x.writeback x.packets x.manner events event calls one st before ready.split ready.arrivals h.answered told.tied told.through asks given over
                (λ j is_stage. last_right x ready calls one st old before is places told.through told.knows views carried once h.called.loaded new called on
                j (asks ∙ asked_at_stage setup s x.packets (calls ++ one) st event j t is_stage))
                t),
            turn_all g (Free event) (Kept st next) (K x ready calls one st old before is places told.through told.knows views carried event next rests) st.passes old.passes places.passes_once on
                (stays x ready calls one st old before is places told.through told.knows views carried event next rests (Free event) rests.progress)
                next.passes new.passes
                (comes x ready calls one st old before is places told.through told.knows views carried event next rests told.through.bit kept shows)
                (λ j p own after at was q gone. moves x ready calls one st old before is places told.through told.knows views carried event next rests
                j p own after at was q (subst (λ o. HasGoneOn (staging p.pre code) o own after) is gone))
                turn,
          ))
          (λ tables through tied.
          let sound = whole_runs_are_sound-sound s x.packets x.manner law in
          let views = subst (KeepViews setup) (sym tied.same) (passes_keep_their_views setup (whole_runs x) (events ++ event ∷ []) sound) in
          λ j o pass at shown.
          ap (visible pass.bit) (told_tables_are_those_of_the_commands x.program x.split x.writeback o (applied_commands next) tables ready.split through shown)
          ∙ views.each j o pass at shown);
    }

-- What drain picks one after the other, over any port.
pub a_drain_goes_on-begins : (x : Inputs) (events : List Event) (calls : List Call) (st : State) (port : PortState)
    → IsReplay x events calls st port → HasPicked x events [] calls st port
a_drain_goes_on-begins x events calls st port h = record {
  replay = subst (λ es. IsReplay x es calls st port) (sym (append-nil events)) h;
  picked = tt;
  told = λ tables is. tt;
}

pub a_drain_goes_on-more : (x : Inputs) (events more : List Event) (event : Event) (calls one : List Call) (st next : State)
    (old new : PortState)
    → HasPicked x events more calls st old → next_event (setup_for x) st ≡ Some event
    → is_some new.told ≡ is_some old.told
    → IsReplay x ((events ++ more) ++ event ∷ []) (calls ++ one) next new
    → HasPicked x events (more ++ event ∷ []) (calls ++ one) next new
a_drain_goes_on-more x events more event calls one st next old new h event_is told replay =
    let setup = setup_for x in
    let same = a_run_is_answered_by_its_calls-state_stays setup (whole x) x.packets (events ++ more) calls one st h.replay.answered in
    let picks = a_run_is_answered_by_its_calls-picked_stay setup (whole x) x.packets events more calls one st h.replay.answered h.picked in
    record {
      replay = subst (λ es. IsReplay x es (calls ++ one) next new) (append_assoc events more (event ∷ [])) replay;
      picked = picks_next setup (answered x (calls ++ one)) events more event st same picks event_is;
      told = λ tables t.
          let was = some_too new.told old.told tables told t in
          let tied = (h.replay.told was.0 was.1).tied in
          picks_next setup (whole_runs x) events more event st tied.same (h.told was.0 was.1) event_is;
    }

-- Where drain picks no event more, over any port, the run is drained, by events within the bound.
pub a_drain_ends : (x : Inputs) (events more : List Event) (calls : List Call) (st : State) (port : PortState)
    → IsReady x → HasPicked x events more calls st port → next_event (setup_for x) st ≡ None
    → HasDrained x events more calls st port
a_drain_ends x events more calls st port ready h none =
    let setup = setup_for x in
    let a = answered x calls in
    let law = split_programs_have_their_laws x.program x.split x.writeback x.packets ready.split ready.arrivals in
    let here = h.replay.answered.run in
    let none_here = sym (ap (next_event setup) here) ∙ none in
    let is : more ≡ drain_events setup a (state_of setup a events) =
    drain_ends-one setup a events more (whole_runs_are_sound-few_answered (whole x) x.packets x.manner calls law)
    (h.picked, sym (ap (next_event setup) (state_append setup a events more)) ∙ none_here) in
    record {
      drained = ap (is_drained setup) here ∙ (drain_ends-stops setup a (events ++ more)).0 none_here;
      bound = subst (λ es. length es ≤ drain_bound setup) (sym is) (drain_ends-bound setup a (state_of setup a events));
      plan = ap (λ es. events ++ es) is;
      told = λ tables t.
          let tied = (h.replay.told tables t).tied in
          let none_told = sym (ap (next_event setup) (tied.same ∙ state_append setup (whole_runs x) events more)) ∙ none in
          ap (λ es. events ++ es)
          (drain_ends-one setup (whole_runs x) events more (whole_runs_are_sound-few (whole x) x.packets x.manner law) (h.told tables t, none_told));
    }

-- Over a port that tells its tables, what is told of a replay is the run of its events.
pub a_told_replay_reports_the_run : (x : Inputs) (events : List Event) (calls : List Call) (st : State) (old new : PortState) (run : Run)
    (commands : ℕ) (tables : Told)
    → IsReady x → IsReplay x events calls st old → Reports x st old new run commands → old.told ≡ Some tables
    → run ≡ job_run (setup_for x) (whole_runs x) events
a_told_replay_reports_the_run x events calls st old new run commands tables ready h reports is =
    let setup = setup_for x in
    let law = split_programs_have_their_laws x.program x.split x.writeback x.packets ready.split ready.arrivals in
    let sound = whole_runs_are_sound-sound (whole x) x.packets x.manner law in
    let told = h.told tables is in
    let shows = seen_of x st (subst (λ (w : State). LookupsShow setup w (seen_store w)) (sym told.tied.same)
    (lookups_see_one_version setup (whole_runs x) events sound).shows) in
    let rows : (o : ℕ) → (whole x).replicated o ≡ true → visible_rows tables.bit (pair_at tables.pairs o) ≡ rows_of (object_at (seen_store st) o) =
    λ o rep. told_rows_are_the_visible_stores x.program x.split x.writeback (seen_store st) (applied_commands st) tables o
    (visible_rows tables.bit (pair_at tables.pairs o))
    ready.split told.through rep (shows o rep) refl in
    let parts : run.switch ≡ seen_parts setup st = reports.rows tables is ∙ parts_same (whole x).replicated tables (seen_store st) rows 0 (whole x).objects in
    reports.is ∙ ap with_parts parts ∙ ap (run_of setup) told.tied.same
  where
    with_parts : List ObjectRows → Run
    with_parts l = record (run_of (setup_for x) st) { switch = l }

-- Each run of whole packets keeps its promises.
pub a_run_keeps_its_promises : (x : Inputs) (events : List Event) → IsReady x
    → Promises x events (job_run (setup_for x) (whole_runs x) events)
a_run_keeps_its_promises x events ready =
    let setup = setup_for x in
    let a = whole_runs x in
    let law = split_programs_have_their_laws x.program x.split x.writeback x.packets ready.split ready.arrivals in
    let sound = whole_runs_are_sound-sound (whole x) x.packets x.manner law in
    record {
      is = refl;
      serialises = every_run_serialises-serialises setup a events sound;
      released = every_run_serialises-quiet setup a events sound;
      drained = every_run_serialises-drained setup a events sound;
      views = λ before behind is. passes_keep_their_views setup a before sound;
      fast = λ before behind is t passing.
          let st = state_for x before in
          let n = length st.progress in
          let same : job_run setup a events ≡ job_run setup a (before ++ Admit ∷ behind) = ap (job_run setup a) is in
          ap (λ (r : Run). is_fast (slice_get r.fates n)) same
          ∙ a_packet_is_fast_by_what_is_seen-settled setup a before behind t (sym (ap (λ (r : Run). is_passing (slice_get r.fates n)) same) ∙ passing)
          ∙ some_where ((whole x).is_fast (seen_store st) (packet_at x.packets n)) ((whole x).verdict (seen_store st) (packet_at x.packets n));
    }

-- Where nothing is on its way, the switch has the tables of the server.
pub a_quiet_switch_has_the_servers_tables : (x : Inputs) (events : List Event) (calls : List Call) (st : State) (port : PortState) (tables : Told)
    → IsReady x → IsReplay x events calls st port → port.told ≡ Some tables → IsTrue (is_quiet st)
    → HasTables x.program x.split x.writeback st.store tables
a_quiet_switch_has_the_servers_tables x events calls st port tables ready h is quiet =
    let setup = setup_for x in
    let law = split_programs_have_their_laws x.program x.split x.writeback x.packets ready.split ready.arrivals in
    let sound = whole_runs_are_sound-sound (whole x) x.packets x.manner law in
    let told = h.told tables is in
    let quiet_there = subst (λ (w : State). is_quiet w ≡ true) told.tied.same quiet in
    let newest = subst (HasNewestTables setup) (sym told.tied.same) (a_quiet_switch_has_the_newest_tables setup (whole_runs x) events sound quiet_there) in
    quiet_tables_are_the_stores x.program x.split x.writeback st.store (applied_commands st) tables ready.split told.through newest.bit newest.each

-- Whatever a port answers, the frame that a packet went up in is one of the code's layout, with the packet's number.
pub frames_have_their_forms : (x : Inputs) (events : List Event) (calls : List Call) (st : State) (port : PortState) (n : ℕ)
    (frame : List ℕ)
    → IsReplay x events calls st port → up_answer calls n ≡ Some (SentUp frame)
    → IsFrame 1 (code_for x).up frame × IsNumbered (whole x) n frame
frames_have_their_forms x events calls st port n frame h is =
    subst (Ended (FormedFrame x) n) is (ended_so (FormedFrame x) calls n (frames_are x (FormedFrame x) (λ n frame formed. formed) calls h.formed))

-- The journal of a port determines the calls of a replay, and so its state: the clauses of a replayer speak of one
-- state.
pub a_journal_determines_its_replay : (x : Inputs) (events : List Event) (calls others : List Call) (st other : State) (port : PortState)
    → IsReady x → IsReplay x events calls st port → IsReplay x events others other port
    → (calls ≡ others) × (st ≡ other)
a_journal_determines_its_replay x events calls others st other port ready h k =
    let setup = setup_for x in
    let s = whole x in
    let framed = frames_do_what_packets_do x.program x.split x.writeback x.packets ready.split ready.arrivals ready.few in
    let numbers = frames_are x (IsNumbered s) (λ n frame formed. formed.1) in
    let one = numbered_each s calls (a_run_is_answered_by_its_calls-numbered s x.packets x.manner events calls st framed h.answered (numbers calls h.formed)) in
    let two = numbered_each s others (a_run_is_answered_by_its_calls-numbered s x.packets x.manner events others other framed k.answered
    (numbers others k.formed)) in
    let journals : journal_of calls ≡ journal_of others = (same_head _ _ (journal_of calls) (journal_of others) (sym h.called.journal ∙ k.called.journal)).1 in
    let same = same_calls s calls others one two journals in
    (same, a_run_is_answered_by_its_calls-one setup s x.packets events others st other (subst (λ cs. IsAnswered setup s x.packets events cs st) same h.answered) k.answered)
