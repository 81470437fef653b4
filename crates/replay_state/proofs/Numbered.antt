-- Frames that come down have the numbers of their packets, where those that went up have them.
use Rattle.std.proofs.Common.{◌≡◌, ◌<◌, ℕ, List, [], ◌∷◌, Option, Some, None, inl, inr, refl, sym, ◌∙◌, ap, subst, arith, map}
use Rattle.std.specs.Prelude.{slice_get, ⊤}
use Rattle.std.specs.List.{AllByRecursion as Each}
use Rattle.std.proofs.lemmas.Bool.{cases_Bool}
use Rattle.lemmas.proofs.Lists.{each_append}
use Rattle.std.proofs.lemmas.Option.{slice_get_within}
use Rattle.packet_fields.specs.declared.packet.Packet.{Packet}
use Rattle.state_store.specs.Store.{Store, start_store}
use Rattle.writeback_table.specs.declared.command.Command.{Command}
use Rattle.run_model.specs.declared.event.Event.{Event}
use Rattle.run_model.specs.declared.event.Event.TheVariants.{Admit, Stage, Apply, Down}
use Rattle.replay_state.specs.Answers.{Setup}
use Rattle.replay_state.specs.State.{State, Pass, first_state}
use Rattle.replay_state.specs.Step.{applies, step}
use Rattle.replay_state.specs.Program.{SplitProgram}
use Rattle.replay_state.specs.Carried.{Carried}
use Rattle.replay_state.specs.Journal.{Call, CalledDown, up_answer, frame_in, journal, over_in, question_of}
use Rattle.replay_state.specs.Journal.{Question, AsksDown, asks_stage, asks_command, asks_down, asks, asked, questions, IsAnswered}
use Rattle.replay_state.specs.Journal.{FramesAre, DownFramesAre, HasGoneUp, IsNumbered}
use Rattle.replay_state.proofs.EveryState.{EveryState, every_step, every_first}
use Rattle.replay_state.proofs.Placed.{down_there}
use Rattle.run_model.proofs.Members.{get_member}
use Rattle.replay_state.proofs.Carried.{carried_first}
use Rattle.replay_state.proofs.Gone.{Ended, ended_so}
use Rattle.replay_state.proofs.Answered.{AllThere, all_asked, cover_step, there_parts}

abbrev DownNumbered : SplitProgram → Question → Type 0
DownNumbered s (AsksDown fine n frame ends) = IsNumbered s n frame
DownNumbered s question = ⊤

numbered_calls : (s : SplitProgram) (calls : List Call) → Each (DownNumbered s) (map question_of calls) → DownFramesAre (IsNumbered s) calls
numbered_calls s [] h = tt
numbered_calls s (CalledDown fine n frame answer ∷ calls) h = (h.0, numbered_calls s calls h.1)
numbered_calls s (call ∷ calls) h = numbered_calls s calls h.1

module _ (setup : Setup) (s : SplitProgram) (packets : List Packet) (calls : List Call) (frames : FramesAre (IsNumbered s) calls)
    (same : (n : ℕ) (frame : List ℕ) (store : Store) → n < setup.total → IsNumbered s n frame → IsNumbered s n (s.serve_down store frame)) where
  numbered_stage : (o : Option Pass) → Each (DownNumbered s) (asks_stage o)
  numbered_stage None = tt
  numbered_stage (Some x) = elim (cases_Bool x.pre) [ inl t ↦ rw t (tt, tt) | inr t ↦ rw t (tt, tt) ]

  numbered_command : (o : Option Command) → Each (DownNumbered s) (asks_command o)
  numbered_command None = tt
  numbered_command (Some command) = (tt, tt)

  numbered_down : (w : State) (j : ℕ) (o : Option ℕ) → slice_get w.down j ≡ o → EveryState setup w → Carried (HasGoneUp calls) w
      → Each (DownNumbered s) (asks_down setup s calls w o)
  numbered_down w j None g k c = tt
  numbered_down w j (Some n) g k c =
      let up = c.down n (get_member w.down j n g) in
      let frame : frame_in (up_answer calls n) ≡ up.0 = ap frame_in up.1 in
      let held = down_there w j n k.consistent g in
      let within = slice_get_within w.progress n _ held.4 in
      let few = k.few in
      (same n (frame_in (up_answer calls n)) (over_in (slice_get w.progress n)) (omega arith) (ap s.number_of frame ∙ subst (Ended (IsNumbered s) n) up.1 (ended_so (IsNumbered s) calls n frames)), tt)

  numbered_asks : (w : State) (e : Event) → EveryState setup w → Carried (HasGoneUp calls) w → Each (DownNumbered s) (asks setup s packets calls w e)
  numbered_asks w Admit k c = (tt, tt)
  numbered_asks w (Stage j) k c = numbered_stage (slice_get w.passes j)
  numbered_asks w Apply k c = numbered_command _
  numbered_asks w (Down j) k c = numbered_down w j (slice_get w.down j) refl k c
  numbered_asks w e k c = tt

  numbered_asked : (w : State) (e : Event) → EveryState setup w → Carried (HasGoneUp calls) w → Each (DownNumbered s) (asked setup s packets calls w e)
  numbered_asked w e k c = elim (cases_Bool (applies setup w e)) [ inl t ↦ rw t (numbered_asks w e k c) | inr t ↦ rw t tt ]

  numbered_steps : (w : State) (es : List Event) → AllThere setup s calls (questions setup s packets calls w es) → EveryState setup w
      → Carried (HasGoneUp calls) w → Each (DownNumbered s) (questions setup s packets calls w es)
  numbered_steps w [] all k c = tt
  numbered_steps w (e ∷ es) all k c =
      let next = step setup (journal s calls) w e in
      let parts = there_parts setup s calls (asked setup s packets calls w e) (questions setup s packets calls next es) all in
      each_append (DownNumbered s) (asked setup s packets calls w e) (questions setup s packets calls next es) (numbered_asked w e k c)
      (numbered_steps next es parts.1 (every_step setup (journal s calls) w e k) (cover_step setup s packets calls w e parts.0 c))

  pub down_numbered : (events : List Event) (st : State) → IsAnswered setup s packets events calls st → DownFramesAre (IsNumbered s) calls
  down_numbered events st h =
      numbered_calls s calls (subst (Each (DownNumbered s)) (sym h.asked)
      (numbered_steps (first_state (start_store setup.objects)) events (all_asked setup s packets events calls st h) (every_first setup (journal s calls) (start_store setup.objects)) (carried_first (HasGoneUp calls) (start_store setup.objects))))
