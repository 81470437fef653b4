-- What is replayed.
use Rattle.std.specs.Prelude.{◌≤◌, ◌^◌, ℕ, List, length}
use Rattle.std.specs.List.{AllByRecursion as Each}
use Rattle.packet_fields.specs.declared.packet.Packet.{Packet}
use Rattle.flat_ir.specs.Arrivals.{IsArrival}
use Rattle.flat_ir.specs.Program.{Program}
use Rattle.run_model.specs.Meaning.{Meaning}
use Rattle.split_model.specs.declared.split.Part.{Part}
use Rattle.switch_ir.specs.Code.{Code}
use Rattle.switch_ir.specs.Emitted.{emitted}
use Rattle.replay_state.specs.Answers.{Answers, Setup, meaning_of}
use Rattle.replay_state.specs.Program.{Manner, SplitProgram, plain, setup_of}
use Rattle.split_answers.specs.Whole.{whole_of, IsSplit}

-- a program with its split, how many rows may be staged for each object, the packets of a trace, and how the run goes
pub record Inputs : Type 0 where
  pub program : Program
  pub split : List Part
  pub writeback : ℕ
  pub packets : List Packet
  pub manner : Manner

abbrev pub whole : Inputs → SplitProgram
whole x = whole_of x.program x.split x.writeback

abbrev pub setup_for : Inputs → Setup
setup_for x = setup_of (whole x) x.packets x.manner

-- whole packets run over whole stores, and what that means
abbrev pub whole_runs : Inputs → Answers
whole_runs x = plain (whole x) x.packets

abbrev pub meaning_for : Inputs → Meaning
meaning_for x = meaning_of (setup_for x) (whole_runs x)

-- the code that its switch is loaded with
abbrev pub code_for : Inputs → Code
code_for x = emitted x.program x.split x.writeback

-- the split is one of the program, and the packets can arrive and have numbers that a frame can tell
pub record IsReady (x : Inputs) : Type 0 where
  pub split : IsSplit x.program x.split x.writeback
  pub arrivals : Each IsArrival x.packets
  pub few : length x.packets ≤ 2 ^ 32
