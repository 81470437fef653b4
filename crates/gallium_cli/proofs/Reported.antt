-- What the report of a replay says of the source.
use Rattle.std.proofs.Common.{◌≡◌, ◌∙◌, ℕ, List, ◌∷◌, ◌++◌, Bool, false, true, cond, sym, ap, subst, refl, Option, Some}
use Rattle.std.specs.Prelude.{IsTrue, IsSome, IsSomeAnd, length, slice_get}
use Rattle.std.specs.List.{AllByRecursion as Each}
use Rattle.packet_fields.specs.declared.packet.Packet.{Packet}
use Rattle.state_store.specs.Kept.{IsKept}
use Rattle.state_store.specs.Store.{Store}
use Rattle.element_lang.specs.Tree.{Tree}
use Rattle.element_lang.specs.Rules.{is_good}
use Rattle.element_interp.specs.Arrivals as interp
use Rattle.flat_ir.specs.Arrivals.{IsArrival}
use Rattle.flat_ir.specs.Program.{Program}
use Rattle.flatten.specs.Flatten.{flat_of}
use Rattle.split_model.specs.declared.split.Part.{Part}
use Rattle.run_model.specs.declared.event.Event.{Event}
use Rattle.run_model.specs.declared.event.Event.TheVariants.{Admit}
use Rattle.run_model.specs.declared.run.Run.{Run}
use Rattle.run_model.specs.Meaning.{AreAlike}
use Rattle.run_model.specs.Serialises.{is_passing}
use Rattle.run_text.specs.declared.plan.Plan.{Plan}
use Rattle.switch_ir.specs.Port.{PortState}
use Rattle.switch_ir.specs.Tables.{Told}
use Rattle.replay_state.specs.Program.{packet_at, manner_of}
use Rattle.replay_state.specs.Run.{job_run}
use Rattle.replay_state.specs.Step.{applies}
use Rattle.replay_contracts.specs.declared.job.Replayed.{Replayed}
use Rattle.replay_contracts.specs.Inputs.{Inputs, meaning_for, setup_for, whole, whole_runs}
use Rattle.replay_contracts.specs.Promise.{Promises, state_for}
use Rattle.replay_contracts.specs.Replayer.{IsReported, IsRunOf}
use Rattle.run_audit.specs.Source.{source_of}
use Rattle.element_interp.proofs.Laws.{stores_are_kept-runs, stores_are_kept-start}
use Rattle.flatten.proofs.Laws.{flattening_keeps_the_meaning-store, flattening_keeps_the_meaning-verdict}
use Rattle.replay_state.proofs.Laws.{a_packet_is_fast_by_what_is_seen-at_once}
use Rattle.run_model.proofs.Laws.{meanings_that_agree-drained, meanings_that_agree-released, meanings_that_agree-serialises}
use Rattle.gallium_cli.specs.Answers.{given, events_of, HasPassed, IsSerialRun, IsReplayed}
use Rattle.replay_contracts.proofs.KnowingOn.{arrives_at}

-- ## Packets that arrive

arrives_there : (packet : Packet) → IsArrival packet → interp.IsArrival packet
arrives_there packet h = record { port = h.port; bytes = h.bytes; size = h.size }

-- ## Reports

-- the split program means what the source means
pub split_is_source : (m : Tree) (split : List Part) (writeback total : ℕ) (packets : List Packet) (fine : Bool)
    → IsTrue (is_good m) → Each IsArrival packets
    → AreAlike (meaning_for (given m split writeback packets fine)) (source_of m packets) total
split_is_source m split writeback total packets fine good all = record {
  objects = refl;
  start = stores_are_kept-start m good;
  after = λ store n kept low. flattening_keeps_the_meaning-store m store (packet_at packets n) good kept (arrives_at packets n all);
  kept = λ store n kept low.
      let packet = packet_at packets n in
      let here = arrives_at packets n all in
      subst (λ (st : Store). IsKept m.objects st) (sym (flattening_keeps_the_meaning-store m store packet good kept here))
      (stores_are_kept-runs m store packet good (arrives_there packet here) kept);
  verdict = λ store n kept low. flattening_keeps_the_meaning-verdict m store (packet_at packets n) good kept (arrives_at packets n all);
}

-- where the run isn't fine, each pass before the server has ended
pub has_passed : (m : Tree) (split : List Part) (writeback : ℕ) (packets : List Packet) (fine : Bool) (events : List Event)
    (run : Run) → fine ≡ false
    → (let x = given m split writeback packets fine in
    Promises x events run → (before behind : List Event) → events ≡ before ++ Admit ∷ behind
    → applies (setup_for x) (state_for x before) Admit ≡ true → HasPassed x before run)
has_passed m split writeback packets fine events run coarse promises before behind is there =
    let x = given m split writeback packets fine in
    let n = length (state_for x before).progress in
    let same : run ≡ job_run (setup_for x) (whole_runs x) (before ++ Admit ∷ behind) =
    promises.is ∙ ap (job_run (setup_for x) (whole_runs x)) is in
    let none : (setup_for x).pre_stages ≡ 0 = ap (λ b. cond b (whole x).pre_stages 0) coarse in
    ap (λ (r : Run). is_passing (slice_get r.fates n)) same
    ∙ a_packet_is_fast_by_what_is_seen-at_once (setup_for x) (whole_runs x) before behind none there

-- a port that tells the tables of which something holds
pub told_there : (P : Told → Type 0) (told : Option Told) → ((tables : Told) × (told ≡ Some tables) × P tables)
    → IsSomeAnd told P
told_there P told found = subst (λ (x : Option Told). IsSomeAnd x P) (sym found.1) found.2

serial_run : (m : Tree) (split : List Part) (writeback : ℕ) (packets : List Packet) (plan : Plan) (replayed : Replayed)
    (port : PortState)
    → (let x = given m split writeback packets plan.fine in
    AreAlike (meaning_for x) (source_of m packets) replayed.run.total
    → IsRunOf x plan.events plan.drain replayed port → IsSerialRun m x plan replayed.run port)
serial_run m split writeback packets plan replayed port alike told =
    let x = given m split writeback packets plan.fine in
    let run = replayed.run in
    let promises = told.promises in
    let flat = promises.serialises in
    record {
      run_is = promises.is;
      serialises = meanings_that_agree-serialises (meaning_for x) (source_of m packets) run alike flat;
      fast = promises.fast;
      passed = λ coarse. has_passed m split writeback packets plan.fine (events_of x plan) run coarse promises;
      views = promises.views;
      quiet = λ ends.
          meanings_that_agree-released (meaning_for x) (source_of m packets) run alike flat (promises.released ends);
      tables = λ ends. told_there _ port.told (told.tables ends);
      drained = λ says. meanings_that_agree-drained (meaning_for x) (source_of m packets) run alike flat (promises.drained says);
    }

pub source_replayed : (m : Tree) (f : Program) (split : List Part) (writeback : ℕ) (packets : List Packet) (plan : Plan)
    (replayed : Replayed) (p p' : PortState) → IsTrue (is_good m) → Each IsArrival packets → f ≡ flat_of m
    → (let x : Inputs =
    record { program = f; split = split; writeback = writeback; packets = packets; manner = manner_of plan.fine } in
    IsReported x plan.events plan.drain replayed p'
    → (IsSome p.told → IsRunOf x plan.events plan.drain replayed p')
    → IsReplayed m (given m split writeback packets plan.fine) plan replayed p p')
source_replayed m f split writeback packets plan replayed p p' good all is answered told =
    let at : Program → Inputs =
    λ g. record { program = g; split = split; writeback = writeback; packets = packets; manner = manner_of plan.fine } in
    let alike = split_is_source m split writeback replayed.run.total packets plan.fine good all in
    record {
      reported = subst (λ (g : Program). IsReported (at g) plan.events plan.drain replayed p') is answered;
      serial = λ tells.
          serial_run m split writeback packets plan replayed p' alike
          (subst (λ (g : Program). IsRunOf (at g) plan.events plan.drain replayed p') is (told tells));
    }
