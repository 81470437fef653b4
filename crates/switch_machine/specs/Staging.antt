-- What the calls of a switch in memory over packets need, and what they leave.
use Rattle.std.specs.Prelude.{◌≡◌, ◌≤◌, ◌++◌, ℕ, List, Bool, false, Some, None, Result, Ok, Err, IsSome, length}
use Rattle.gal_io.specs.Count.{IsCountedIf}
use Rattle.packet_fields.specs.Sizes.{largest_packet}
use Rattle.flat_ir.specs.Blocks.{nothing}
use Rattle.transfer_header.specs.Frames.{IsFrame}
use Rattle.switch_ir.specs.Code.{Code}
use Rattle.switch_ir.specs.Meaning.{down_given}
use Rattle.switch_ir.specs.Port.{has_failed, noted, OfItsParts}
use Rattle.switch_ir.specs.Tables.{Told}
use Rattle.switch_ir.specs.UnderWay.{Passes}
use Rattle.switch_ir.specs.declared.journal.Entry.{Entry}
use Rattle.switch_ir.specs.declared.port.PortError.{PortError}
use Rattle.switch_ir.specs.declared.port.UpEnd.{UpEnd}
use Rattle.switch_machine.specs.declared.calls.CallKind.{CallKind}
use Rattle.switch_machine.specs.declared.sides.Event.{Event}
use Rattle.switch_machine.specs.declared.sides.Event.TheVariants as event
use Rattle.switch_machine.specs.declared.sides.Side.{Side}
use Rattle.switch_machine.specs.declared.sides.Side.TheVariants.{Before, Behind}
use Rattle.switch_machine.specs.Counts.{counted}
use Rattle.switch_machine.specs.Machine.{MachineState}
use Rattle.switch_machine.specs.Sides.{of_side, with_last}
use Rattle.switch_machine.specs.UnderWay.{Enters, Stages}

-- the passes of a side
abbrev pub passes_at : Side → MachineState → Passes
passes_at side m = of_side side m.passes.pre m.passes.post

-- the state with one entry more
abbrev pub with_entry : Entry → MachineState → MachineState
with_entry entry m = record m { journal = with_last entry m.journal }

-- what a call over a packet needs, of the code and of the passes of its side
abbrev pub CanTake : Event → Code → Passes → Type 0
CanTake (event.Up number port packet whole) code passes = (length packet.now ≤ largest_packet) × (whole ≡ false → passes number ≡ None)
CanTake (event.Down frame whole) code passes =
    IsFrame 2 code.down frame.now × (whole ≡ false → OfItsParts code frame.now (λ number packet values. passes number ≡ None))
CanTake (event.Stage side number) code passes = IsSome (passes number)

-- a pass begins over the packet of a frame
abbrev pub EntersDown : List ℕ → Bool → Code → Told → UpEnd → Passes → Passes → Type 0
EntersDown frame whole code told end old new =
    OfItsParts code frame (λ number packet values. Enters Behind code told whole number packet (down_given code values packet) end old new)

-- what it makes of these passes, with its end
abbrev pub Takes : Event → Code → Told → UpEnd → Passes → Passes → Type 0
Takes (event.Up number port packet whole) code told = Enters Before code told whole number (record { port = port; bytes = packet.now }) nothing
Takes (event.Down frame whole) code told = EntersDown frame.now whole code told
Takes (event.Stage side number) code told = Stages side code told number

-- what it leaves of them: as this says where the call has an answer, and else as before
abbrev pub IsTakenBy : (UpEnd → Passes → Passes → Type 0) → Result UpEnd PortError → Passes → Passes → Type 0
IsTakenBy IsTaken (Ok end) old new = IsTaken end old new
IsTakenBy IsTaken (Err error) old new = new ≡ old

-- what a call at a side leaves, by its entry and by what it makes of the passes there
pub record Leaves (side : Side) (call : Result UpEnd PortError → Entry) (IsTaken : Code → Told → UpEnd → Passes → Passes → Type 0)
    (end : Result UpEnd PortError) (old new : MachineState) : Type 0 where
  pub code : new.code ≡ old.code
  pub tables : new.tables ≡ old.tables
  pub entries : new.journal.entries ≡ old.journal.entries ++ noted call end
  pub spare : new.journal.spare ≡ old.journal.spare
  pub faults : IsCountedIf (has_failed end) old.faults new.faults
  pub planned : new.planned ≡ old.planned
  pub calls : new.calls ≡ old.calls
  pub other : of_side side new.passes.post new.passes.pre ≡ of_side side old.passes.post old.passes.pre
  pub loaded : (code : Code) × (old.code ≡ Some code)
  pub takes : (code : Code) → old.code ≡ Some code → IsTakenBy (IsTaken code old.tables) end (passes_at side old) (passes_at side new)

-- the state with a call of this kind counted
abbrev pub with_call : CallKind → MachineState → MachineState
with_call kind m = record m { calls = counted m.calls kind }
