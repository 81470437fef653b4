-- What calls of a switch leave in its journal and in the tables that it tells.
use Rattle.std.specs.Prelude.{◌≡◌, ◌≤◌, ⊤, Bool, true, false, List, [], ◌∷◌, ◌++◌, Some, Ok, map}
use Rattle.std.specs.List.{filter}
use Rattle.packet_fields.specs.declared.packet.Packet.{Packet}
use Rattle.writeback_table.specs.declared.command.Command.{Command}
use Rattle.switch_ir.specs.Code.{Code}
use Rattle.switch_ir.specs.Port.{PortState, IsUpFrame, PassesUp, PassesDown, Commands}
use Rattle.switch_ir.specs.Port.{BeginsUp, StagesUp, BeginsDown, StagesDown}
use Rattle.switch_ir.specs.Port.{HasNoUpPass, HasUpPass, HasNoDownPassOf, HasDownPass}
use Rattle.switch_ir.specs.Tables.{Told, told_after}
use Rattle.switch_ir.specs.declared.journal.Entry.{Entry}
use Rattle.switch_ir.specs.declared.journal.Entry.TheVariants as entry
use Rattle.replay_state.specs.Journal.{Call, CalledUp, CalledStageUp, CalledCommand, CalledDown, CalledStageDown}
use Rattle.replay_state.specs.Program.{packet_at}
use Rattle.split_answers.specs.Over.{IsGiven}
use Rattle.split_answers.specs.Through.{down_end_of, end_of}

-- ## The journal

-- the entry of a call
abbrev pub entry_of : Call → Entry
entry_of (CalledUp false n packet answer) = entry.Up n packet.port packet.bytes (Ok (end_of answer))
entry_of (CalledUp true n packet answer) = entry.BeginUp n packet.port packet.bytes (Ok (end_of answer))
entry_of (CalledStageUp n answer) = entry.StageUp n (Ok (end_of answer))
entry_of (CalledCommand c) = entry.Command c (Ok tt)
entry_of (CalledDown false n frame answer) = entry.Down frame (Ok (down_end_of answer))
entry_of (CalledDown true n frame answer) = entry.BeginDown frame (Ok (down_end_of answer))
entry_of (CalledStageDown n answer) = entry.StageDown n (Ok (down_end_of answer))

abbrev pub journal_of : List Call → List Entry
journal_of calls = map entry_of calls

-- it is no call for room or for rows
abbrev pub is_of_replay : Entry → Bool
is_of_replay (entry.Room commands) = false
is_of_replay (entry.Visible object) = false
is_of_replay entry = true

-- the journal without calls for room and for rows
abbrev pub calls_in : List Entry → List Entry
calls_in journal = filter is_of_replay journal

-- the port has this code, and its journal has a load and then these calls, beside calls for room and for rows
pub record HasCalls (code : Code) (calls : List Call) (port : PortState) : Type 0 where
  pub loaded : port.code ≡ Some code
  pub journal : calls_in port.journal ≡ entry.Load ∷ journal_of calls

-- ## The tables

-- the tables after a call
abbrev pub told_then : Call → Told → Told
told_then (CalledCommand c) told = told_after c told
told_then call told = told

abbrev pub told_through : List Call → Told → Told
told_through [] told = told
told_through (call ∷ calls) told = told_through calls (told_then call told)

-- the commands among calls
abbrev pub command_in : Call → List Command
command_in (CalledCommand c) = c ∷ []
command_in call = []

abbrev pub commands_among : List Call → List Command
commands_among [] = []
commands_among (call ∷ calls) = command_in call ++ commands_among calls

-- ## Frames

-- a frame that went up has the code's layout, and the number, the port and the packet of its pass, whatever its values
abbrev pub IsFormed : Code → List Packet → Call → Type 0
IsFormed code packets (CalledUp fine n packet answer) = IsUpFrame code n packet.port packet.bytes (end_of answer)
IsFormed code packets (CalledStageUp n answer) =
    let packet = packet_at packets n in IsUpFrame code n packet.port packet.bytes (end_of answer)
IsFormed code packets call = ⊤

-- ## Calls

-- the port was called for nothing but room and rows, and no call of it failed
pub record KeepsCalls (old new : PortState) : Type 0 where
  pub code : new.code ≡ old.code
  pub told : new.told ≡ old.told
  pub passes : new.passes ≡ old.passes
  pub journal : calls_in new.journal ≡ calls_in old.journal
  pub spare : old.spare ≤ new.spare
  pub faults : new.faults ≡ old.faults

-- the port was called so, and the call didn't fail
abbrev pub WasMade : Call → PortState → PortState → Type 0
WasMade (CalledUp false n packet answer) old new = PassesUp (Ok (end_of answer)) n packet.port packet.bytes old new
WasMade (CalledUp true n packet answer) old new =
    HasNoUpPass old n × BeginsUp (Ok (end_of answer)) n packet.port packet.bytes old new
WasMade (CalledStageUp n answer) old new = HasUpPass old n × StagesUp (Ok (end_of answer)) n old new
WasMade (CalledCommand c) old new = Commands (Ok tt) c old new
WasMade (CalledDown false n frame answer) old new = PassesDown (Ok (down_end_of answer)) frame old new
WasMade (CalledDown true n frame answer) old new =
    HasNoDownPassOf old frame × BeginsDown (Ok (down_end_of answer)) frame old new
WasMade (CalledStageDown n answer) old new = HasDownPass old n × StagesDown (Ok (down_end_of answer)) n old new

-- the port was called so, one after the other, and for nothing else but room and rows
abbrev pub WasCalled : Code → List Call → PortState → PortState → Type 0
WasCalled code [] old new = KeepsCalls old new
WasCalled code (call ∷ calls) old new =
    (between : PortState) × IsGiven code call × WasMade call old between × WasCalled code calls between new
