-- A journal as contracts see it, and how its calls lie in memory.
use Rattle.std.specs.Prelude.{◌≡◌, ℕ, ◌+◌, ◌≤◌, List, [], ◌∷◌, length, take, drop, Result, Ok, Err}
use Rattle.packet_fields.specs.declared.verdict.Verdict.TheVariants as verdict
use Rattle.writeback_table.specs.declared.command.To.TheVariants as to
use Rattle.writeback_table.specs.declared.command.Command.{Command}
use Rattle.writeback_table.specs.declared.command.Command.TheVariants as command
use Rattle.switch_ir.specs.declared.port.PortError.{PortError}
use Rattle.switch_ir.specs.declared.port.PortError.TheVariants.{Failed, NoMemory}
use Rattle.switch_ir.specs.declared.port.UpEnd.{UpEnd}
use Rattle.switch_ir.specs.declared.port.UpEnd.TheVariants as up
use Rattle.switch_ir.specs.declared.port.DownEnd.{DownEnd}
use Rattle.switch_ir.specs.declared.port.DownEnd.TheVariants as down
use Rattle.switch_ir.specs.declared.journal.Entry.{Entry}
use Rattle.switch_ir.specs.declared.journal.Entry.TheVariants as entry
use Rattle.switch_ir.specs.declared.journal.Call.{Call}
use Rattle.switch_ir.specs.declared.journal.Call.TheVariants as call
use Rattle.switch_ir.specs.declared.journal.End.{End}
use Rattle.switch_ir.specs.declared.journal.End.TheVariants as end
use Rattle.switch_ir.specs.declared.journal.Form.{Form}
use Rattle.switch_ir.specs.declared.journal.Form.TheVariants as form
use Rattle.switch_ir.specs.declared.journal.Mark.{Mark}
use Rattle.switch_ir.specs.declared.journal.Outline.{Outline}
use Rattle.switch_ir.specs.declared.journal.Outline.TheVariants as outline

pub record JournalState : Type 0 where
  -- the calls, in order
  pub entries : List Entry
  -- for how many calls more there is memory that have no bytes
  pub spare : ℕ

-- the entry of a call
abbrev pub entry_of : Call → Entry
entry_of call.Load = entry.Load
entry_of (call.Room commands) = entry.Room commands
entry_of (call.Up number port packet end) = entry.Up number port packet.now end.now
entry_of (call.Down frame end) = entry.Down frame.now end.now
entry_of (call.BeginUp number port packet end) = entry.BeginUp number port packet.now end.now
entry_of (call.StageUp number end) = entry.StageUp number end.now
entry_of (call.BeginDown frame end) = entry.BeginDown frame.now end.now
entry_of (call.StageDown number end) = entry.StageDown number end.now
entry_of (call.Command command end) = entry.Command command.now end
entry_of (call.Visible object) = entry.Visible object

-- ## What marks stand for

-- the end of a pass whose answer has these bytes
abbrev pub up_in : End → List ℕ → Result UpEnd PortError
up_in end.Drop bytes = Ok (up.Finished verdict.Drop)
up_in (end.Send port) bytes = Ok (up.Finished (verdict.Send port bytes))
up_in end.Up bytes = Ok (up.Up bytes)
up_in end.Going bytes = Ok up.Going
up_in end.Failed bytes = Err Failed
up_in end.NoMemory bytes = Err NoMemory

abbrev pub down_in : End → List ℕ → Result DownEnd PortError
down_in end.Drop bytes = Ok (down.Verdict verdict.Drop)
down_in (end.Send port) bytes = Ok (down.Verdict (verdict.Send port bytes))
down_in end.Failed bytes = Err Failed
down_in end.NoMemory bytes = Err NoMemory
down_in _ bytes = Ok down.Going

-- the command of an object, with these numbers of its key and of its values
abbrev pub command_in : Form → ℕ → List ℕ → List ℕ → Command
command_in form.Stage object key values = command.Stage (record { object = object; key = key; to = to.Value values })
command_in form.StageGone object key values = command.Stage (record { object = object; key = key; to = to.Gone })
command_in form.On object key values = command.On
command_in form.Main object key values = command.Main (record { object = object; key = key; to = to.Value values })
command_in form.MainGone object key values = command.Main (record { object = object; key = key; to = to.Gone })
command_in form.Off object key values = command.Off
command_in form.Clear object key values = command.Clear object key

-- how many numbers a call has
abbrev pub number_count : Outline → ℕ
number_count (outline.Command end form object key values) = key + values
number_count call = 0

-- a key, and values, have at most 8 numbers
abbrev pub IsShort : Outline → Type 0
IsShort (outline.Command end form object key values) = (key ≤ 8) × (values ≤ 8)
IsShort call = Unit {0}

-- the call with these numbers and bytes
abbrev pub entry_in : Outline → List ℕ → List ℕ → Entry
entry_in outline.Load numbers bytes = entry.Load
entry_in (outline.Room commands) numbers bytes = entry.Room commands
entry_in (outline.Up port end number given) numbers bytes =
    entry.Up number port (take given bytes) (up_in end (drop given bytes))
entry_in (outline.Down end given) numbers bytes = entry.Down (take given bytes) (down_in end (drop given bytes))
entry_in (outline.BeginUp port end number given) numbers bytes =
    entry.BeginUp number port (take given bytes) (up_in end (drop given bytes))
entry_in (outline.StageUp end number) numbers bytes = entry.StageUp number (up_in end bytes)
entry_in (outline.BeginDown end given) numbers bytes =
    entry.BeginDown (take given bytes) (down_in end (drop given bytes))
entry_in (outline.StageDown end number) numbers bytes = entry.StageDown number (down_in end bytes)
entry_in (outline.Command end form object key values) numbers bytes =
    entry.Command (command_in form object (take key numbers) (drop key numbers)) end
entry_in (outline.Visible object) numbers bytes = entry.Visible object

-- The calls that marks stand for: each takes its numbers off the numbers, and its bytes off the bytes.
abbrev pub entries_of : List Mark → List ℕ → List ℕ → List Entry
entries_of [] numbers bytes = []
entries_of (mark ∷ marks) numbers bytes =
    entry_in mark.call (take (number_count mark.call) numbers) (take mark.bytes bytes)
    ∷ entries_of marks (drop (number_count mark.call) numbers) (drop mark.bytes bytes)

-- there are as many numbers and bytes as the marks stand for
abbrev pub IsFilled : List Mark → List ℕ → List ℕ → Type 0
IsFilled [] numbers bytes = (length numbers ≡ 0) × (length bytes ≡ 0)
IsFilled (mark ∷ marks) numbers bytes =
    IsShort mark.call × (number_count mark.call ≤ length numbers) × (mark.bytes ≤ length bytes)
    × IsFilled marks (drop (number_count mark.call) numbers) (drop mark.bytes bytes)
