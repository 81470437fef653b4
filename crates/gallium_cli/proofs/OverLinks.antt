-- What the report of a replay over links says of the source.
use Rattle.std.proofs.Common.{◌≡◌, ℕ, false, List, refl, subst}
use Rattle.std.specs.Prelude.{IsSome, IsTrue}
use Rattle.std.specs.List.{AllByRecursion as Each}
use Rattle.packet_fields.specs.declared.packet.Packet.{Packet}
use Rattle.element_lang.specs.Rules.{is_good}
use Rattle.element_lang.specs.Tree.{Tree}
use Rattle.flat_ir.specs.Arrivals.{IsArrival}
use Rattle.flat_ir.specs.Program.{Program}
use Rattle.flatten.specs.Flatten.{flat_of}
use Rattle.split_model.specs.declared.split.Part.{Part}
use Rattle.run_model.specs.declared.link_event.LinkEvent.{LinkEvent}
use Rattle.run_audit.specs.Source.{source_of}
use Rattle.switch_ir.specs.Port.{PortState}
use Rattle.replay_state.specs.Program.{manner_of}
use Rattle.replay_contracts.specs.Inputs.{Inputs, meaning_for, setup_for}
use Rattle.lossy_replay.specs.Linked.{linked_of}
use Rattle.lossy_replay.specs.Replay.{HasEnds, IsLinkedReplay, IsLinkedRun, events_through, world_of}
use Rattle.lossy_replay.specs.declared.run.LossyRun.{LossyRun}
use Rattle.run_model.proofs.Laws.{meanings_that_agree-drained, meanings_that_agree-released, meanings_that_agree-serialises}
use Rattle.gallium_cli.specs.Answers.{given}
use Rattle.gallium_cli.specs.Links.{IsLinkReplayed, IsSerialOverLinks}
use Rattle.gallium_cli.proofs.Reported.{has_passed, split_is_source, told_there}

serial_over_links : (m : Tree) (split : List Part) (writeback : ℕ) (packets : List Packet) (events : List LinkEvent)
    (run : LossyRun) (port : PortState) → IsTrue (is_good m)
    → Each IsArrival packets → IsLinkedRun (given m split writeback packets false) events run port
    → IsSerialOverLinks m (given m split writeback packets false) events run.run port
serial_over_links m split writeback packets events run port good all told =
    let x = given m split writeback packets false in
    let promises = told.promises in
    let flat = promises.serialises in
    let alike = split_is_source m split writeback run.run.total packets false good all in
    record {
      run_is = promises.is;
      serialises = meanings_that_agree-serialises (meaning_for x) (source_of m packets) run.run alike flat;
      fast = λ before behind is there. promises.fast before behind is there
          (has_passed m split writeback packets false (events_through x events) run.run refl promises before behind is there);
      quiet = λ ends. meanings_that_agree-released (meaning_for x) (source_of m packets) run.run alike flat (promises.released ends);
      tables = λ ends. told_there _ port.told (told.tables ends);
      drained = λ says. meanings_that_agree-drained (meaning_for x) (source_of m packets) run.run alike flat (promises.drained says);
    }

pub source_over_links : (m : Tree) (f : Program) (split : List Part) (writeback : ℕ) (packets : List Packet)
    (events : List LinkEvent) (run : LossyRun) (p p' : PortState) → IsTrue (is_good m) → Each IsArrival packets → f ≡ flat_of m
    → (let x : Inputs =
    record { program = f; split = split; writeback = writeback; packets = packets; manner = manner_of false } in
    IsLinkedReplay x events run p' → (IsSome p.told → IsLinkedRun x events run p')
    → IsLinkReplayed m (given m split writeback packets false) events run p p')
source_over_links m f split writeback packets events run p p' good all is linked told =
    let at : Program → Inputs =
    λ g. record { program = g; split = split; writeback = writeback; packets = packets; manner = manner_of false } in
    record {
      linked = subst (λ (g : Program). IsLinkedReplay (at g) events run p') is linked;
      serial = λ tells. serial_over_links m split writeback packets events run p' good all
          (subst (λ (g : Program). IsLinkedRun (at g) events run p') is (told tells));
      ends = λ tells. subst (λ (g : Program). HasEnds (linked_of (setup_for (at g)) (world_of (at g)) events) run) is (told tells).ends;
    }
