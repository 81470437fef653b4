-- The two sides of the server, the calls over packets at them, and how these end.
use Rattle.std.specs.Prelude.{◌≡◌, ◌++◌, ◌∷◌, [], ℕ, Bool, true, false, Result, Ok, Err, IfOk, refl}
use Rattle.std.specs.Coded.{Coded, code_by, coded_bool}
use Rattle.packet_fields.specs.declared.packet.Packet.{Packet}
use Rattle.flat_ir.specs.Blocks.{Reading}
use Rattle.switch_ir.specs.Journal.{JournalState}
use Rattle.switch_ir.specs.Passes.{Code}
use Rattle.switch_ir.specs.Staged.{EndsBy, EndsDownBy, Staging}
use Rattle.switch_ir.specs.declared.journal.Entry.{Entry}
use Rattle.switch_ir.specs.declared.journal.Entry.TheVariants as entry
use Rattle.switch_ir.specs.declared.port.PortError.{PortError}
use Rattle.switch_ir.specs.declared.port.PortError.TheVariants.{Failed}
use Rattle.switch_ir.specs.declared.port.UpEnd.{UpEnd}
use Rattle.switch_ir.specs.declared.port.UpEnd.TheVariants as up
use Rattle.switch_ir.specs.declared.port.DownEnd.{DownEnd}
use Rattle.switch_ir.specs.declared.port.DownEnd.TheVariants as down
use Rattle.switch_machine.specs.declared.calls.CallKind.{CallKind}
use Rattle.switch_machine.specs.declared.calls.CallKind.TheVariants as kind
use Rattle.switch_machine.specs.declared.sides.Event.{Event}
use Rattle.switch_machine.specs.declared.sides.Event.TheVariants as event
use Rattle.switch_machine.specs.declared.sides.Side.{Side}
use Rattle.switch_machine.specs.declared.sides.Side.TheVariants.{Before, Behind}

abbrev pub of_side : {X : Type 0} → Side → X → X → X
of_side Before before behind = before
of_side Behind before behind = behind

-- by which sides are told apart
abbrev is_behind : Side → Bool
is_behind Before = false
is_behind Behind = true

abbrev side_from : Bool → Side
side_from false = Before
side_from true = Behind

same_side : (side : Side) → side_from (is_behind side) ≡ side
same_side Before = refl
same_side Behind = refl

pub side_code : Coded Side
side_code = code_by Bool coded_bool is_behind side_from same_side

-- the pass of a side: before the server nothing is handed to it, and behind it nothing goes up
abbrev pub staging : Side → Code → Staging
staging side code = record {
  code = of_side side code.pre code.post;
  tables = code.tables;
  handed = of_side side [] code.down;
  layout = of_side side code.up [];
}

-- ## How a call ends

-- behind the server, where no packet goes up
abbrev pub down_of : Result UpEnd PortError → Result DownEnd PortError
down_of (Ok up.Going) = Ok down.Going
down_of (Ok (up.Up frame)) = Err Failed
down_of (Ok (up.Finished verdict)) = Ok (down.Verdict verdict)
down_of (Err error) = Err error

abbrev pub up_from : Result DownEnd PortError → Result UpEnd PortError
up_from (Ok down.Going) = Ok up.Going
up_from (Ok (down.Verdict verdict)) = Ok (up.Finished verdict)
up_from (Err error) = Err error

abbrev pub IsOf : Side → UpEnd → Type 0
IsOf Before end = Unit {0}
IsOf Behind (up.Up frame) = ⊥
IsOf Behind end = Unit {0}

abbrev pub is_going : UpEnd → Bool
is_going up.Going = true
is_going end = false

-- what becomes of a packet by the last numbers of its pass
abbrev pub EndsOn : Side → Code → Reading → ℕ → Packet → UpEnd → Type 0
EndsOn Before code reads number packet end = EndsBy code reads number packet end
EndsOn Behind code reads number packet end = IfOk (down_of (Ok end)) (EndsDownBy code reads packet)

-- ## Calls over packets

abbrev pub side_of : Event → Side
side_of (event.Up number port packet whole) = Before
side_of (event.Down frame whole) = Behind
side_of (event.Stage side number) = side

abbrev pub kind_of : Event → CallKind
kind_of (event.Up number port packet true) = kind.Up
kind_of (event.Up number port packet false) = kind.BeginUp
kind_of (event.Down frame true) = kind.Down
kind_of (event.Down frame false) = kind.BeginDown
kind_of (event.Stage Before number) = kind.StageUp
kind_of (event.Stage Behind number) = kind.StageDown

-- the entry of one that ended so
abbrev pub entry_for : Event → Result UpEnd PortError → Entry
entry_for (event.Up number port packet true) end = entry.Up number port packet.now end
entry_for (event.Up number port packet false) end = entry.BeginUp number port packet.now end
entry_for (event.Down frame true) end = entry.Down frame.now (down_of end)
entry_for (event.Down frame false) end = entry.BeginDown frame.now (down_of end)
entry_for (event.Stage Before number) end = entry.StageUp number end
entry_for (event.Stage Behind number) end = entry.StageDown number (down_of end)

-- a journal with one entry more
abbrev pub with_last : Entry → JournalState → JournalState
with_last entry journal = record journal { entries = journal.entries ++ entry ∷ [] }
