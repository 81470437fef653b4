-- A pass that is computed in registers.
use Rattle.std.specs.Prelude.{◌≡◌, ◌≤◌, ◌==◌, ℕ, zero, suc, true, false, ◌||◌, ◌&&◌, List, [], ◌++◌, length}
use Rattle.std.specs.Prelude.{None, Some}
use Rattle.std.specs.List.{AllByRecursion as Each}
use Rattle.packet_fields.specs.declared.packet.Packet.{Packet}
use Rattle.state_store.specs.Store.{Store}
use Rattle.flat_ir.specs.declared.program.ValueId.{ValueId}
use Rattle.flat_ir.specs.Blocks.{Reading}
use Rattle.flat_ir.specs.Run.{results}
use Rattle.transfer_header.specs.Registers.{Registers, content_of}
use Rattle.transfer_header.specs.Steps.{Contents, Steps, is_among, pairs_written}
use Rattle.switch_ir.specs.Code.{Step, PassCode}
use Rattle.switch_machine.specs.declared.numbering.ValueRange.{ValueRange}
use Rattle.switch_machine.specs.Numbers.{number_in, range_at, reads_by, stage_gives, stage_reads, stage_writes, is_read}
use Rattle.switch_machine.specs.Staged.{of_stage}

-- what a pass begins with is written at step 0
abbrev pub first_writes : List ℕ → ℕ → List ℕ
first_writes begins zero = begins
first_writes begins (suc t) = []

-- The steps of a pass: its stages, and then one that reads what is kept of it. At step 0 it is handed what it begins
-- with, too.
abbrev pub steps_of : List ValueRange → PassCode → List ℕ → List ValueId → (ℕ → Contents → Contents) → Steps
steps_of ranges pass begins kept number = record {
  reads = λ t n. stage_reads ranges (of_stage t pass.steps) n || (t == suc pass.highest && is_read ranges kept n);
  writes = λ t. first_writes begins t ++ stage_writes ranges (of_stage t pass.steps);
  number = number;
}

-- no results that are left out have a number: there are at most as many as the instruction has values
abbrev pub FitRanges : List ValueRange → List Step → Store → Packet → Type 0
FitRanges ranges steps tables packet = (reads : Reading)
    → Each (λ (s : Step). length (results reads false tables packet s.work) ≤ (range_at ranges s.instruction).count) steps

-- two instructions have no number in common
abbrev pub AreNumberedApart : List ValueRange → Type 0
AreNumberedApart ranges = (v w : ValueId) (n : ℕ) → number_in ranges v ≡ Some n → number_in ranges w ≡ Some n
    → v.instruction ≡ w.instruction

-- the registers have these numbers of the values that the pass begins with, and other values begin with 0
pub record BeginsWith (ranges : List ValueRange) (begins : List ℕ) (given : Reading) (registers : Registers)
    : Type 0 where
  pub begun : (v : ValueId) (n : ℕ) → number_in ranges v ≡ Some n → is_among n begins ≡ true
      → content_of registers n ≡ given v
  pub others : (v : ValueId) (n : ℕ) → number_in ranges v ≡ Some n → is_among n begins ≡ false → given v ≡ 0
  pub unknown : (v : ValueId) → number_in ranges v ≡ None → given v ≡ 0

-- the registers once a stage is done: it reads all that it reads before it writes
abbrev pub stage_done : List ValueRange → List Step → ℕ → Store → Packet → Registers → Registers
stage_done ranges steps t tables packet registers =
    pairs_written registers (stage_gives ranges (of_stage t steps) (reads_by ranges (content_of registers)) tables packet)

-- the registers before a stage of a pass that began with these
unfoldable pub registers_at : List ValueRange → PassCode → Store → Packet → Registers → ℕ → Registers
registers_at ranges pass tables packet start zero = start
registers_at ranges pass tables packet start (suc t) =
    stage_done ranges pass.steps t tables packet (registers_at ranges pass tables packet start t)
