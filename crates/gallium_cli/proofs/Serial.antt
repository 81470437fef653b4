-- A replay that is done tells a serial run of its source.
use Rattle.std.proofs.Common.{ℕ, false, List, Option, Some, None, IfSome, refl}
use Rattle.std.specs.Prelude.{IsSome}
use Rattle.std.proofs.lemmas.Bool.{false≢true}
use Rattle.std.proofs.lemmas.Option.{IfSome_then}
use Rattle.element_lang.specs.Accepted.{IsSource}
use Rattle.element_lang.specs.Tree.{Tree}
use Rattle.split_model.specs.declared.split.Part.{Part}
use Rattle.gallium_cli.specs.Answers.{IsProgram, IsSplitBy}
use Rattle.gallium_cli.specs.Call.{Work}
use Rattle.gallium_cli.specs.Causes.{IsDone}
use Rattle.gallium_cli.specs.Promises.{IsReplay}
use Rattle.gallium_cli.specs.Serial.{IsSerial}
use Rattle.gallium_cli.specs.Words.{Request, Replay, Lossy, Gen, Splitting, ServerAlone, Within, Spelled}

program_source : (told : List ℕ → Option (List ℕ)) (s : List ℕ) (m : Tree) → IsProgram told s m
    → IfSome (told s) (λ text. IsSource text m)
program_source told s m program = IfSome_then (told s) program.source (λ text h. h.1.source)

-- whatever split it goes by, the source is spelled
split_program : (by : Splitting) (told : List ℕ → Option (List ℕ)) (s : List ℕ) (m : Tree) (split : List Part)
    (writeback : ℕ) → IsSplitBy by told s m split writeback → IsProgram told s m
split_program ServerAlone told s m split writeback is = is.0
split_program (Within l shrink) told s m split writeback (allowed, plan, choice, rows) = plan.program
split_program (Spelled l p) told s m split writeback (allowed, plan, given, rows) = plan.program

pub serial_done : (request : Option Request) (work : Work) → IsReplay request → IsSome work.port.told → IsDone request work
    → IsSerial request work
serial_done None work replay tells done = replay
serial_done (Some (Replay s t c by)) work replay tells
    (text, (m, split, writeback, packets, plan, replayed, is_split, traffic, (is, what)), taken, read, kept) =
    let serial = what.serial tells in
    record {
      m = m;
      packets = packets;
      run = replayed.run;
      text = text;
      replayed = record {
        source = program_source work.files.told s m (split_program by work.files.told s m split writeback is_split);
        trace = IfSome_then (work.files.told t) traffic.trace (λ spelled h. h.1);
      };
      told = is;
      taken = taken;
      serialises = serial.serialises;
      drained = serial.drained;
    }
serial_done (Some (Lossy s t c l)) work replay tells
    (text, (m, split, writeback, packets, events, run, is_split, traffic, (is, what)), taken, read, kept) =
    let serial = what.serial tells in
    record {
      m = m;
      packets = packets;
      run = run.run;
      text = text;
      replayed = record {
        source = program_source work.files.told s m (split_program (Within l false) work.files.told s m split writeback is_split);
        trace = IfSome_then (work.files.told t) traffic.trace_is (λ spelled h. h.1);
      };
      told = (_, is);
      taken = taken;
      serialises = serial.serialises;
      drained = serial.drained;
    }
serial_done (Some (Gen seed count)) work replay tells (text, summary, taken, read, kept) =
    let serial = summary.replay.serial tells in
    record {
      m = summary.m;
      packets = _;
      run = summary.replayed.run;
      text = text;
      replayed = (summary.made.source.source, refl);
      told = (_, summary.told);
      taken = taken;
      serialises = serial.serialises;
      drained = serial.drained;
    }
serial_done (Some _) work replay tells done = absurd (false≢true replay)
