-- A switch that tells its tables leads to the state of whole packets.
use Rattle.std.proofs.Common.{◌≡◌, ℕ, ◌<◌, true, false, cond, List, [], ◌∷◌, ◌++◌, Option, Some, None, refl, sym, ◌∙◌, ap, subst, arith, length}
use Rattle.std.specs.Prelude.{slice_get}
use Rattle.std.proofs.lemmas.Option.{slice_get_within, slice_get-get_or}
use Rattle.packet_fields.specs.declared.packet.Packet.{Packet}
use Rattle.state_store.specs.Store.{Store, start_store}
use Rattle.replay_state.specs.Answers.{Setup}
use Rattle.replay_state.specs.State.{State, Pass, Held, store_at, seen, first_state}
use Rattle.run_model.specs.declared.event.Event.{Event}
use Rattle.run_model.specs.declared.event.Event.TheVariants.{Admit, Stage, Serve, Down}
use Rattle.replay_state.specs.Step.{applies, step, steps}
use Rattle.replay_state.specs.Step.{pass_of}
use Rattle.replay_state.specs.Agree.{EndAlike, RunAlike, AgreeOn}
use Rattle.run_model.specs.Meaning.{packet_at}
use Rattle.run_model.proofs.Members.{get_member}
use Rattle.replay_state.specs.Program.{IsSplitProgram, Manner, SplitProgram, plain, setup_of}
use Rattle.replay_state.specs.Journal.{UpAnswer, Finished, SentUp, Call, up_answer, verdict_in, frame_in, journal, over_in}
use Rattle.replay_state.specs.Carried.{Carried}
use Rattle.replay_state.specs.Tied.{HasFrames, IsRight, EndsRight, Tells, IsSentUp, IsTied}
use Rattle.replay_state.proofs.Plain.{plain_sound}
use Rattle.replay_state.proofs.Runs.{store_kept, up_within}
use Rattle.replay_state.proofs.InvariantKept.{Kept}
use Rattle.replay_state.proofs.Seen.{OverAll, stored_of}
use Rattle.replay_state.proofs.InvariantKept.{kept_of}
use Rattle.replay_state.proofs.Steps.{steps_append}
use Rattle.replay_state.proofs.AlikeAnswers.{step_alike}
use Rattle.replay_state.proofs.Carried.{EndsWell, carried_step, carried_weaker}
use Rattle.replay_state.proofs.Answered.{up_stays}

-- ---- one step over a switch that tells

right_pre : (s : SplitProgram) (store : Store) (n : ℕ) (packet : Packet) (o : Option UpAnswer) → IsRight s store n packet o → verdict_in o ≡ cond (s.is_fast store packet) (Some (s.verdict store packet)) None
right_pre s store n packet (Some (Finished y)) h = rw h.0 (ap Some h.1)
right_pre s store n packet (Some (SentUp frame)) h = rw h.0 refl
right_pre s store n packet o h = absurd h

right_frame : (s : SplitProgram) (store : Store) (n : ℕ) (packet : Packet) (o : Option UpAnswer) → IsRight s store n packet o → verdict_in o ≡ None → o ≡ Some (SentUp (s.up_frame n packet))
right_frame s store n packet (Some (Finished y)) h none = cc
right_frame s store n packet (Some (SentUp frame)) h none = ap (λ f. Some (SentUp f)) h.1
right_frame s store n packet o h none = absurd h

module _ (s : SplitProgram) (packets : List Packet) (manner : Manner) (law : IsSplitProgram s packets) (frames : HasFrames s packets) where
  abbrev setup : Setup
  setup = setup_of s packets manner

  abbrev begin : Store
  begin = start_store s.objects

  there : (n : ℕ) → n < length packets → slice_get packets n ≡ Some (packet_at packets n)
  there n low = slice_get-get_or packets n _ low

  module _ (calls : List Call) where
    end_right : (w : State) (x : Pass) → Kept setup (plain s packets) w → OverAll setup w.progress → (x.pre ≡ false → IsSentUp s packets calls x.number)
        → EndsRight s packets calls w x
        → EndAlike (journal s calls) (plain s packets) w x
    end_right w x k kept up r = record {
      pre = λ t. right_pre s (store_at w.stores x.version) x.number (packet_at packets x.number) (up_answer calls x.number) (r.pre t);
      post = λ e d v over t g.
          let n = x.number in
          let low = slice_get_within w.progress n (Held e d v over) g in
          let few = k.base.few in
          let f = frames.each n (packet_at packets n) over (there n (omega arith)) (kept n e d v over g) in
          let frame : frame_in (up_answer calls n) ≡ s.up_frame n (packet_at packets n) = ap frame_in (up t) in
          r.post t ∙ ap (λ o. s.post (s.serve_down (over_in o) (frame_in (up_answer calls n)))) g ∙ ap (λ z. s.post (s.serve_down over z)) frame ∙ f.verdict;
    }

    run_right : (w : State) (j n : ℕ) → Kept setup (plain s packets) w → Carried (IsSentUp s packets calls) w → slice_get w.up j ≡ Some n
        → RunAlike (journal s calls) (plain s packets) w n
    run_right w j n k c g =
        let sound = plain_sound s packets manner law in
        let low = up_within setup (plain s packets) begin sound law.start w j n k.base.consistent k.base.few g in
        let f = frames.each n (packet_at packets n) w.store (there n low) (store_kept setup (plain s packets) begin sound law.start w k.own) in
        let frame : frame_in (up_answer calls n) ≡ s.up_frame n (packet_at packets n) = ap frame_in (c.up n (get_member w.up j n g)) in
        record { after = ap (s.serve_after w.store) frame ∙ f.after; changes = ap (s.serve_changes w.store) frame ∙ f.changes }

    agree_told : (w : State) (e : Event) → Kept setup (plain s packets) w → OverAll setup w.progress → Carried (IsSentUp s packets calls) w
        → Tells setup s packets calls w e → AgreeOn setup (journal s calls) (plain s packets) w e
    agree_told w Admit k o c t = λ z. end_right w (pass_of w true (length w.progress) setup.pre_stages) k o (λ f. cc) (t z)
    agree_told w (Stage j) k o c t = λ x low g. end_right w x k o (c.passes x (get_member w.passes j x g)) (t x low g)
    agree_told w (Serve j) k o c t = λ n g. run_right w j n k c g
    agree_told w (Down j) k o c t = λ n z g. end_right w (pass_of w false n setup.post_stages) k o (λ f. c.down n (get_member w.down j n g)) (t n z g)
    agree_told w e k o c t = tt

    ends_told : (w : State) (e : Event) → Tells setup s packets calls w e → EndsWell setup (journal s calls) (IsSentUp s packets calls) w e
    ends_told w Admit t = λ z none. right_frame s (store_at w.stores (seen w)) (length w.progress) (packet_at packets (length w.progress)) (up_answer calls (length w.progress)) ((t z).pre refl) none
    ends_told w (Stage j) t = λ x low g p none. right_frame s (store_at w.stores x.version) x.number (packet_at packets x.number) (up_answer calls x.number) ((t x low g).pre p) none
    ends_told w e t = tt

    one_told : (w : State) (e : Event) → Kept setup (plain s packets) w → OverAll setup w.progress → Carried (IsSentUp s packets calls) w
        → (applies setup w e ≡ true → Tells setup s packets calls w e)
        → (step setup (journal s calls) w e ≡ step setup (plain s packets) w e) × Carried (IsSentUp s packets calls) (step setup (journal s calls) w e)
    one_told w e k o c t = (
      step_alike setup (journal s calls) (plain s packets) w e (λ h. agree_told w e k o c (t h)),
      carried_step setup (journal s calls) (IsSentUp s packets calls) w e (λ h. ends_told w e (t h)) c,
    )

  sent_up_more : (calls more : List Call) (n : ℕ) → IsSentUp s packets calls n → IsSentUp s packets (calls ++ more) n
  sent_up_more calls more n h = sym (up_stays calls more n (_, h)) ∙ h

  -- one event more, with its calls
  pub next_tied : (events : List Event) (event : Event) (calls one : List Call) (st : State) → IsTied setup s packets calls events st → (applies setup st event ≡ true → Tells setup s packets (calls ++ one) st event)
      → IsTied setup s packets (calls ++ one) (events ++ event ∷ []) (step setup (journal s (calls ++ one)) st event)
  next_tied events event calls one st t tells =
      let a = plain s packets in
      let w = steps setup a (first_state begin) events in
      let k = kept_of setup a (plain_sound s packets manner law) events in
      let over = (stored_of setup a (plain_sound s packets manner law) events).own.over in
      let framed = carried_weaker (IsSentUp s packets calls) (IsSentUp s packets (calls ++ one)) st (sent_up_more calls one) t.framed in
      let r = one_told (calls ++ one) st event (subst (Kept setup a) (sym t.same) k)
      (subst (λ (x : State). OverAll setup x.progress) (sym t.same) over) framed tells in
      record {
        same = r.0 ∙ ap (λ x. step setup a x event) t.same ∙ sym (steps_append setup a (first_state begin) events (event ∷ []));
        framed = r.1;
      }
