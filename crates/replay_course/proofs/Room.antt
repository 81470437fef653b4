-- The next command finds room, where the tables are told.
use Rattle.std.proofs.Common.{◌≡◌, ℕ, zero, suc, Bool, true, false, List, [], ◌∷◌, Option, Some, None, inl, inr, length, arith, refl, sym, ap, subst, ◌∙◌}
use Rattle.std.proofs.lemmas.Bool.{cases_Bool, or_parts}
use Rattle.std.proofs.lemmas.List.{length-map}
use Rattle.std.proofs.lemmas.Option.{same_Some, none-some, slice_get_within}
use Rattle.std.specs.List.{list_any}
use Rattle.std.specs.Prelude.{slice_get, IfSome}
use Rattle.writeback_table.specs.declared.command.Command.{Command}
use Rattle.run_model.specs.declared.event.Event.{Event}
use Rattle.switch_ir.specs.Port.{PortState, HasNoUpPass, HasRoomFor, OfItsParts}
use Rattle.switch_ir.specs.UnderWay.{PassState, ToldPass}
use Rattle.writeback_table.specs.Views.{disturbs}
use Rattle.output_commit.specs.Commit.{next as next_command}
use Rattle.split_answers.specs.UnderWay.{passes_of}
use Rattle.transfer_header.specs.Told.{number_in}
use Rattle.replay_state.specs.Places.{HavePlaces}
use Rattle.switch_ir.specs.Tables.{Told, has_room_in}
use Rattle.replay_state.specs.Journal.{Call, IsNumbered, down_frame, frame_in, over_in}
use Rattle.replay_state.specs.Program.{IsSplitProgram}
use Rattle.output_commit.specs.Batches.{commands_in}
use Rattle.replay_state.specs.declared.pass.Pass.{Pass}
use Rattle.replay_state.specs.State.{State, applied_commands, fate_of}
use Rattle.replay_state.specs.Step.{waits}
use Rattle.replay_state.specs.Tables.{IsSeen}
use Rattle.replay_contracts.proofs.Laws.{frames_have_their_forms}
use Rattle.replay_state.proofs.Laws.{lookups_see_one_version, whole_runs_are_sound-sound}
use Rattle.split_answers.proofs.Laws.{a_told_command_finds_room, frames_do_what_packets_do, split_programs_have_their_laws}
use Rattle.transfer_header.proofs.Laws.{frames_are_told_by_place-parts}
use Rattle.replay_contracts.specs.Inputs.{Inputs, IsReady, code_for, setup_for, whole, whole_runs}
use Rattle.replay_contracts.specs.Replay.{IsReplay}
use Rattle.replay_course.specs.declared.course.Course.{Course}
use Rattle.replay_course.specs.Going.{CanGoOn, MayCall, ready_next, unless_waits}
use Rattle.replay_course.specs.Shown.{IsShown}
use Rattle.replay_course.proofs.Lists.{get_member}
use Rattle.replay_course.proofs.ShownOutputs.{down_at}
use Rattle.replay_course.proofs.EventsTaken.{have_gone, have_places, next_at, next_named}
use Rattle.lemmas.proofs.Lists.{get_past}

pub is_split_program : (x : Inputs) → IsReady x → IsSplitProgram (whole x) x.packets
is_split_program x ready = split_programs_have_their_laws x.program x.split x.writeback x.packets ready.split ready.arrivals

-- ## What need not wait

pub is_ready : (passes : List Pass) (o : Option Command) (command : Command) → unless_waits passes o ≡ Some command → (o ≡ Some command) × (waits passes (Some command) ≡ false)
is_ready passes None command e = cc
is_ready passes (Some d) command e = elim (cases_Bool (waits passes (Some d))) [
  | inl t ↦ let bad = rw t at e in cc
  | inr t ↦ let same : d ≡ command = same_Some _ _ (rw t at e) in (ap Some same, subst (λ k. waits passes (Some k) ≡ false) same t)
]

none_at : (test : Pass → Bool) (passes : List Pass) (j : ℕ) (p : Pass) → list_any test passes ≡ false → slice_get passes j ≡ Some p → test p ≡ false
none_at test [] j p e at = cc
none_at test (q ∷ passes) zero p e at = subst (λ r. test r ≡ false) (same_Some _ _ at) (or_parts (test q) (list_any test passes) e).0
none_at test (q ∷ passes) (suc j) p e at = none_at test passes j p (or_parts (test q) (list_any test passes) e).1 at

none_by : {X : Type 0} (o : Option X) → ((x : X) → o ≡ Some x → ⊥) → o ≡ None
none_by None h = refl
none_by (Some x) h = absurd (h x refl)

module _ (x : Inputs) (events : List Event) (calls : List Call) (st : State) (c : Course) (port : PortState) (replay : IsReplay x events calls st port) (shown : IsShown (whole x) calls st c) (going : CanGoOn x c port) where
  finds_room : (command : Command) → ready_next c ≡ Some command → HasRoomFor port command
  finds_room command ready = by_told port.told refl
    where
      here : next_command c.commit ≡ Some command
      here = (is_ready c.passes (next_command c.commit) command ready).0

      by_told : (o : Option Told) → port.told ≡ o → IfSome o (λ told. has_room_in told.pairs command ≡ true)
      by_told None is = tt
      by_told (Some told) is =
          let now = replay.told told is in
          let at : slice_get (commands_in st.batches) st.done ≡ Some command = (λ i. slice_get (commands_in (sym shown.batches i)) (sym shown.done i)) ∙ next_at c.commit command (sym here) in
          let runs = whole_runs_are_sound-sound (whole x) x.packets x.manner (is_split_program x going.prepared.ready) in
          let sees = subst (IsSeen (setup_for x)) (sym now.tied.same) (lookups_see_one_version (setup_for x) (whole_runs x) events runs) in
          a_told_command_finds_room x.program x.split x.writeback (applied_commands st) command told going.prepared.ready.split now.through
          (next_named x c command going.sound (sym here)) (λ o replicated. sees.room o command replicated at)

  -- a command that is ready disturbs no pass
  undisturbed : (command : Command) → ready_next c ≡ Some command → (pre : Bool) (n : ℕ) (own : PassState) (told : ToldPass)
      → passes_of pre port.passes n ≡ Some own → own.told ≡ Some told → disturbs told.bit command ≡ false
  undisturbed command ready pre n own told there is =
      let found = replay.passes.only pre n own there in
      let p = found.1 in
      let on = replay.passes.each found.0 p found.2 in
      let at : passes_of p.pre port.passes p.number ≡ passes_of pre port.passes n = ap (λ b. passes_of b port.passes p.number) found.3 ∙ ap (passes_of pre port.passes) found.4 in
      let same : on.own ≡ own = same_Some _ _ (sym on.there ∙ at ∙ there) in
      let bit = on.bit told (ap (λ (s : PassState). s.told) same ∙ is) in
      let none = (is_ready c.passes (next_command c.commit) command ready).1 in
      ap (λ b. disturbs b command) bit
      ∙ none_at (λ (q : Pass). disturbs q.bit command) c.passes found.0 p none (ap (λ l. slice_get l found.0) shown.passes ∙ found.2)

  places : HavePlaces st
  places = have_places x events calls st replay.answered

  arrives : HasNoUpPass port (length c.fates.items)
  arrives = none_by (port.passes.pre (length c.fates.items)) (λ own there.
      let found = replay.passes.only true (length c.fates.items) own there in
      let entered = places.entered found.0 found.1 found.2 found.3 in
      let count : length c.fates.items ≡ length st.progress = ap length shown.fates ∙ length-map st.progress fate_of in
      none-some _ (sym (ap (slice_get st.progress) (found.4 ∙ count) ∙ get_past st.progress) ∙ entered.1))

  none_behind : (i n : ℕ) → slice_get st.down i ≡ Some n → port.passes.post n ≡ None
  none_behind i n here = none_by (port.passes.post n) (λ own there.
      let found = replay.passes.only false n own there in
      places.comes_once i found.0 n found.1 here found.2 found.3 found.4)

  -- what comes down has the number of its packet
  down_numbered : (j n : ℕ) → slice_get st.down j ≡ Some n → IsNumbered (whole x) n (down_frame (whole x) calls st n)
  down_numbered j n here =
      let ready = going.prepared.ready in
      let frames = frames_do_what_packets_do x.program x.split x.writeback x.packets ready.split ready.arrivals ready.few in
      let up = (have_gone x events calls st replay.answered).down n (get_member st.down j n here) in
      let held = places.down j n here in
      let admitted = going.sound.within.admitted in
      let count : length c.fates.items ≡ length st.progress = ap length shown.fates ∙ length-map st.progress fate_of in
      let low = slice_get_within st.progress n _ held.4 in
      subst (λ o. IsNumbered (whole x) n ((whole x).serve_down (over_in (slice_get st.progress n)) (frame_in o))) (sym up.1)
      (frames.numbered n up.0 (over_in (slice_get st.progress n)) (omega arith) (frames_have_their_forms x events calls st port n up.0 replay up.1).1)

  pub may_call : MayCall x c port
  may_call = record {
    room = finds_room;
    waits = λ command ready. record {
      pre = λ n own told there is. undisturbed command ready true n own told there is;
      post = λ n own told there is. undisturbed command ready false n own told there is;
    };
    arrives = arrives;
    comes_down = λ j item here.
        let at = down_at (whole x) calls st c shown j item here in
        let frame_is = shown.down_frames j item here in
        let number = subst (λ frame. number_in frame ≡ item.0) (sym frame_is) (down_numbered j item.0 at) in (
          subst (λ o. IfSome o (λ code. OfItsParts code item.1 (λ m packet values. port.passes.post m ≡ None))) (sym going.loaded)
              (λ m p values packet framed.
              let same : m ≡ item.0 = sym (frames_are_told_by_place-parts 2 (code_for x).down m p values packet item.1 framed).numbered ∙ number in
              subst (λ k. port.passes.post k ≡ None) (sym same) (none_behind j item.0 at)),
          number,
        );
    under_way = λ j p at. replay.passes.each j p (ap (λ l. slice_get l j) (sym shown.passes) ∙ at);
  }
