-- What is told of a course is what is told of the state that it shows.
use Rattle.std.proofs.Common.{◌≡◌, ◌<◌, ◌≤◌, ◌*◌, ◌^◌, ℕ, Bool, true, false, List, refl, sym, ap, subst, ◌∙◌, arith, length, eqb}
use Rattle.std.proofs.Math.Nat.{mul-le-mul}
use Rattle.std.specs.Prelude.{◌&&◌, IsSome, Option, Some, None, count_by}
use Rattle.run_model.specs.Fate.{is_decided, is_released}
use Rattle.run_model.specs.Order.{order_of}
use Rattle.run_model.specs.Parts.{parts_of}
use Rattle.run_model.specs.declared.run.ObjectRows.{ObjectRows}
use Rattle.run_model.specs.declared.run.Run.{Run}
use Rattle.run_model.specs.declared.event.Event.{Event}
use Rattle.switch_ir.specs.Port.{PortState}
use Rattle.switch_ir.specs.Tables.{Told}
use Rattle.split_answers.specs.UnderWay.{AreOnSwitch}
use Rattle.output_commit.specs.Batches.{commands_in, visible}
use Rattle.output_commit.specs.Commit.{commands, visible as seen_by}
use Rattle.replay_state.specs.Drain.{is_drained}
use Rattle.replay_state.specs.Journal.{Call}
use Rattle.replay_state.specs.Run.{run_of}
use Rattle.replay_state.specs.State.{State, fate_of, seen}
use Rattle.replay_contracts.specs.Inputs.{Inputs, setup_for, whole}
use Rattle.replay_contracts.specs.Called.{KeepsCalls}
use Rattle.replay_contracts.specs.Promise.{Reports}
use Rattle.replay_contracts.specs.Replay.{IsReplay, IsTold}
use Rattle.replay_contracts.specs.declared.job.Replayed.{Replayed}
use Rattle.replay_course.proofs.ToldByCalls.{keeps_all}
use Rattle.replay_course.specs.declared.course.Course.{Course}
use Rattle.replay_course.specs.Shown.{IsShown}
use Rattle.replay_course.specs.Going.{IsPrepared, IsSound}
use Rattle.replay_course.specs.Telling.{ShowsParts, is_done, told_run}
use Rattle.std.proofs.lemmas.List.{length-map}
use Rattle.replay_course.proofs.DrainEvents.{map_length}

module _ (x : Inputs) (calls : List Call) (st : State) (c : Course) (h : IsShown (whole x) calls st c) where
  done_is : is_done (length x.packets) c ≡ is_drained (setup_for x) st
  done_is =
      let up = map_length _ c.up.items st.up h.up in
      let held = map_length _ c.commit.held st.held h.held in
      let down = map_length _ c.down.items st.down h.down in
      let fates : length c.fates.items ≡ length st.progress = ap length h.fates ∙ length-map st.progress fate_of in
      (λ i. eqb (fates i) (length x.packets) && (eqb (length (h.passes i)) 0 && (eqb (up i) 0 && (eqb (held i) 0 && (eqb (down i) 0
      && eqb (h.acked i) (length (commands_in (h.batches i))))))))
      ∙ grouped (eqb (length st.progress) (length x.packets)) (eqb (length st.passes) 0) (eqb (length st.up) 0) (eqb (length st.held) 0) (eqb (length st.down) 0) _
    where
      grouped : (n p u k d a : Bool) → (n && (p && (u && (k && (d && a))))) ≡ (n && ((((p && u) && k) && d) && a))
      grouped n true true true true a = refl
      grouped n true true true false a = refl
      grouped n true true false d a = refl
      grouped n true false k d a = refl
      grouped n false u k d a = refl

  pub tells_run : (parts : List ObjectRows) → told_run x c parts ≡ record (run_of (setup_for x) st) { switch = parts }
  tells_run parts =
      let vis : seen_by c.commit ≡ seen st = λ i. visible (h.batches i) (h.done i) in
      λ i. record {
        total = length x.packets;
        decided = count_by is_decided (h.fates i);
        released = count_by is_released (h.fates i);
        events = h.events i;
        idle = h.idle i;
        version = h.version i;
        visible = vis i;
        drained = done_is i;
        fates = h.fates i;
        order = order_of (h.fates i);
        objects = parts_of x.program.objects (h.store i);
        switch = parts;
      }

pub reported : (x : Inputs) (calls : List Call) (st : State) (c : Course) (old new : PortState) (parts : List ObjectRows) (run : Run) (number : ℕ) → IsShown (whole x) calls st c
    → ShowsParts x old new parts → run ≡ told_run x c parts → number ≡ length (commands c.commit) → Reports x st old new run number
reported x calls st c old new parts run number h shows is count =
    let same : run.switch ≡ parts = ap (λ (r : Run). r.switch) is in
    record {
      is = is ∙ tells_run x calls st c h parts ∙ ap (λ (l : List ObjectRows). with_parts l) (sym same);
      count = count ∙ ap (λ bs. length (commands_in bs)) h.batches;
      kept = shows.kept;
      rows = λ told told_is. same ∙ shows.rows told told_is;
    }
  where
    with_parts : List ObjectRows → Run
    with_parts l = record (run_of (setup_for x) st) { switch = l }

-- ## A port behind what was told of it

pub kept_replay : (x : Inputs) (events : List Event) (calls : List Call) (st : State) (old new : PortState) → IsReplay x events calls st old
    → KeepsCalls old new → IsReplay x events calls st new
kept_replay x events calls st old new replay kept = record {
  answered = replay.answered;
  called = record { loaded = kept.code ∙ replay.called.loaded; journal = kept.journal ∙ replay.called.journal };
  formed = replay.formed;
  passes = subst (AreOnSwitch (setup_for x) x.packets st) (sym kept.passes) replay.passes;
  told = λ tables is. subst (IsTold x events calls st tables) (sym kept.passes) (replay.told tables (sym kept.told ∙ is));
}

-- what was told behind calls for rows is told of the port as it is then
pub reports_there : (x : Inputs) (st : State) (old new : PortState) (run : Run) (commands : ℕ) → Reports x st old new run commands
    → Reports x st new new run commands
reports_there x st old new run commands reports = record {
  is = reports.is;
  count = reports.count;
  kept = keeps_all new;
  rows = λ tables is. reports.rows tables (sym reports.kept.told ∙ is);
}

abbrev pub ReportsOf : Inputs → Course → PortState → PortState → Replayed → Type 0
ReportsOf x c old new replayed = (calls : List Call) (st : State) → IsShown (whole x) calls st c
    → Reports x st old new replayed.run replayed.commands

pub some_of : (o : Option Told) → IsSome o → (told : Told) × (o ≡ Some told)
some_of None some = absurd cc
some_of (Some told) some = (told, refl)

-- ## Packets and fates are few

less_by : (n k : ℕ) → n * k < 2 ^ 32 → 2 ≤ k → n < 2 ^ 32
less_by n k few two = let same : n ≤ n = omega arith in let twice = mul-le-mul same two in omega arith

pub few_packets : (x : Inputs) → IsPrepared x → length x.packets < 2 ^ 32
few_packets x plain = less_by _ _ plain.few (omega arith)

pub few_fates : (x : Inputs) (c : Course) → IsPrepared x → IsSound x c → length c.fates.items < 2 ^ 32
few_fates x c plain sound = let few = few_packets x plain in let within = sound.within.admitted in omega arith
