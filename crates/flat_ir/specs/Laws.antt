-- What holds of every run of a flat program.
use Rattle.std.specs.Prelude.{◌≡◌, ℕ, ◌<◌, ◌≤◌, ◌^◌, true, false, length, slice_index}
use Rattle.packet_fields.specs.declared.packet.Packet.{Packet}
use Rattle.state_store.specs.Kept.{IsKept}
use Rattle.state_store.specs.Store.{Store, object_at}
use Rattle.flat_ir.specs.declared.program.ValueId.{ValueId}
use Rattle.flat_ir.specs.Program.{Program, Work, step_at, width_of_value}
use Rattle.flat_ir.specs.Program.Work.{apply, shift, select, byte, look, put, del}
use Rattle.std.specs.List.{AllByRecursion as Each}
use Rattle.flat_ir.specs.Blocks.{Reading, is_live, is_on}
use Rattle.flat_ir.specs.Run.{Machine, after, flat_run, flat_store, flat_changes, with_changes, results}
use Rattle.state_store.specs.Kinds.{is_constant}

-- Each value of a run is its instruction's result of the run's own values, in the store at its turn; and the block is
-- live at its turn just where it is live by the run's values.
pub record IsItsValues (f : Program) (st : Store) (packet : Packet) (i : ℕ) : Type 0 where
  pub live : is_live f.blocks (after f st packet i).reads (step_at f i).block
      ≡ is_live f.blocks (flat_run f st packet).reads (step_at f i).block
  pub value : (place : ℕ) → (flat_run f st packet).reads (record { instruction = i; result = place })
      ≡ slice_index (results (flat_run f st packet).reads
      (is_live f.blocks (flat_run f st packet).reads (step_at f i).block) (after f st packet i).store packet
      (step_at f i).work) place

-- a run leaves the constant tables
abbrev pub KeepsTables : Program → Store → Packet → Type 0
KeepsTables f st packet =
    (o n : ℕ) → is_constant f.objects o ≡ true → n ≤ length f.code
    → object_at (after f st packet n).store o ≡ object_at st o

-- the store that a run leaves is the one that it began with and its changes
abbrev pub IsItsChanges : Program → Store → Packet → Type 0
IsItsChanges f st packet = flat_store f st packet ≡ with_changes st (flat_changes f st packet)

-- each number has no more bits than its value's width
abbrev pub AllFit : Program → Reading → Type 0
AllFit f reads = (v : ValueId) → reads v < 2 ^ width_of_value f v

-- a machine whose store keeps what was declared, and whose numbers fit
pub record KeepsWidths (f : Program) (m : Machine) : Type 0 where
  pub kept : IsKept f.objects m.store
  pub fits : AllFit f m.reads

-- two readings give the same number
abbrev pub Same : Reading → Reading → ValueId → Type 0
Same r r' v = r v ≡ r' v

-- What two readings have to agree on for an instruction to give the same: its operands, of a select the condition and
-- the side that is taken.
abbrev pub SameFor : Reading → Reading → Work → Type 0
SameFor r r' (apply op width args) = Each (Same r r') args
SameFor r r' (shift op width arg by) = Same r r' arg
SameFor r r' (select width cond first second) =
    Same r r' cond × (is_on (r cond) ≡ true → Same r r' first) × (is_on (r cond) ≡ false → Same r r' second)
SameFor r r' (byte index) = Same r r' index
SameFor r r' (look object keys) = Each (Same r r') keys
SameFor r r' (put object keys values) = Each (Same r r') keys × Each (Same r r') values
SameFor r r' (del object keys) = Each (Same r r') keys
SameFor r r' _ = Unit {0}
