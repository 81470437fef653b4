-- What holds of every flat program and of every run of one, as the definitions give it.
use Rattle.std.specs.List.{AllByRecursion as Each}
use Rattle.std.specs.Prelude.{Bool, List, length, suc, true, ℕ, ◌&&◌, ◌<◌, ◌∷◌, ◌≡◌, ◌≤◌}
use Rattle.packet_fields.specs.Arrivals.{IsArrival}
use Rattle.packet_fields.specs.declared.packet.Packet.{Packet}
use Rattle.state_store.proofs.Laws.{rows_change_alone-others}
use Rattle.state_store.specs.Kept.{IsKept}
use Rattle.state_store.specs.Store.{Store}
use Rattle.flat_ir.proofs.Changes.{is_its_changes}
use Rattle.flat_ir.proofs.FitParts.{writes_no_table}
use Rattle.flat_ir.proofs.KeptRuns.{keeps_widths, turn_fits}
use Rattle.flat_ir.proofs.Lines.{arm_live, line_suc, live_suc, seen_live}
use Rattle.flat_ir.proofs.Readings.{change_same, live_same, results_same, same_for_operands}
use Rattle.flat_ir.proofs.Runs.{are_its_values, kept, unset}
use Rattle.flat_ir.proofs.Tables.{keeps_tables}
use Rattle.flat_ir.specs.Blocks.{HasLowParents, Reading, block_at, holds, is_live, is_on, line, same}
use Rattle.flat_ir.specs.Laws.{IsItsChanges, IsItsValues, KeepsTables, KeepsWidths, Same, SameFor}
use Rattle.flat_ir.specs.Program.{Program, Work, operands, step_at}
use Rattle.flat_ir.specs.Run.{Machine, after, change_of, do_step, results}
use Rattle.flat_ir.specs.WellFormed.{EachCondition, IsInArm, IsSeenFrom, IsWellFormed, WritesNoTable}
use Rattle.flat_ir.specs.declared.program.Block.{Block}
use Rattle.flat_ir.specs.declared.program.ValueId.{ValueId as Value}

-- A value that is computed stays as it is, and one that isn't counts as 0.
pub a_run_goes_on-stays : (f : Program) (st : Store) (packet : Packet) (to from : ℕ) (v : Value) → v.instruction < from
    → from ≤ to → (after f st packet to).reads v ≡ (after f st packet from).reads v
a_run_goes_on-stays = kept

pub a_run_goes_on-ahead : (f : Program) (st : Store) (packet : Packet) (n : ℕ) (v : Value) → n ≤ v.instruction
    → (after f st packet n).reads v ≡ 0
a_run_goes_on-ahead = unset

-- Each value is the instruction's result of the run's own values.
pub a_run_is_its_values : (f : Program) (st : Store) (packet : Packet) (i : ℕ) → IsWellFormed f → i < length f.code
    → IsItsValues f st packet i
a_run_is_its_values = are_its_values

-- A run leaves the constant tables, since no instruction writes to one.
pub a_run_keeps_the_tables-runs : (f : Program) (st : Store) (packet : Packet) → IsWellFormed f → KeepsTables f st packet
a_run_keeps_the_tables-runs = keeps_tables rows_change_alone-others

pub a_run_keeps_the_tables-instructions : (f : Program) (i : ℕ) → IsWellFormed f → i < length f.code
    → WritesNoTable f (step_at f i).work
a_run_keeps_the_tables-instructions f i well lt = writes_no_table f (step_at f i).work (well.fit i lt)

-- A run changes the store by its changes alone.
pub a_run_is_its_changes : (f : Program) (st : Store) (packet : Packet) → IsItsChanges f st packet
a_run_is_its_changes = is_its_changes

-- From a store that keeps what was declared a run leaves one that does, and each value has no more bits than its
-- width.
pub a_run_keeps_widths : (f : Program) (st : Store) (packet : Packet) (n : ℕ) → IsWellFormed f → IsArrival packet
    → IsKept f.objects st → n ≤ length f.code → KeepsWidths f (after f st packet n)
a_run_keeps_widths = keeps_widths

-- An instruction keeps what was declared of the store, and numbers that fit: from any numbers that fit their values'
-- widths, and in a block that is live or not.
pub a_turn_keeps_widths : (f : Program) (packet : Packet) (live : Bool) (i : ℕ) (m : Machine)
    → IsWellFormed f → IsArrival packet → i < length f.code → KeepsWidths f m
    → KeepsWidths f (do_step live packet i (step_at f i).work m)
a_turn_keeps_widths = turn_fits

-- Readings that agree on what an instruction reads give it the same results and changes, and readings that agree on
-- the conditions of a block and of those above it make it live by both or by neither.
pub readings_that_agree-operands : (r r' : Reading) (work : Work) → Each (Same r r') (operands work) → SameFor r r' work
readings_that_agree-operands = same_for_operands

pub readings_that_agree-results : (r r' : Reading) (live : Bool) (st : Store) (packet : Packet) (work : Work) → SameFor r r' work
    → results r live st packet work ≡ results r' live st packet work
readings_that_agree-results = results_same

pub readings_that_agree-changes : (r r' : Reading) (st : Store) (work : Work) → SameFor r r' work
    → change_of r st work ≡ change_of r' st work
readings_that_agree-changes = change_same

pub readings_that_agree-live : (f : Program) (r r' : Reading) (k : ℕ) → Each (EachCondition f (Same r r')) (line f.blocks k)
    → is_live f.blocks r k ≡ is_live f.blocks r' k
readings_that_agree-live = live_same

-- A block is live where its condition has its polarity and its parent is live. So what a live block sees is live, and
-- so is an arm of a select whose side is taken.
pub lines_of_blocks-line : (blocks : List Block) (k : ℕ) → HasLowParents blocks
    → line blocks (suc k) ≡ suc k ∷ line blocks (block_at blocks k).parent
lines_of_blocks-line blocks k low = line_suc blocks low k

pub lines_of_blocks-live : (blocks : List Block) (r : Reading) (k : ℕ) → HasLowParents blocks
    → is_live blocks r (suc k) ≡ (holds blocks r (suc k) && is_live blocks r (block_at blocks k).parent)
lines_of_blocks-live blocks r k low = live_suc blocks low r k

pub lines_of_blocks-seen : (f : Program) (r : Reading) (k : ℕ) (v : Value) → IsWellFormed f → IsSeenFrom f k v
    → is_live f.blocks r k ≡ true → is_live f.blocks r (step_at f v.instruction).block ≡ true
lines_of_blocks-seen f r k v well = seen_live f well r k v

pub lines_of_blocks-arm : (f : Program) (r : Reading) (k : ℕ) (c : Value) (polarity : Bool) (v : Value) → IsWellFormed f
    → IsInArm f k c polarity v → is_live f.blocks r k ≡ true → same polarity (is_on (r c)) ≡ true
    → is_live f.blocks r (step_at f v.instruction).block ≡ true
lines_of_blocks-arm f r k cond polarity v well = arm_live f well r k cond polarity v
