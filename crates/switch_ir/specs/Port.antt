-- A switch as contracts see it, and what its calls do.
use Rattle.std.specs.Prelude.{◌≡◌, ◌≤◌, ◌<◌, ◌^◌, ℕ, suc, nat_lt, Bool, true, false, ◌&&◌, List, [], ◌∷◌, ◌++◌, length, ⊤}
use Rattle.std.specs.Prelude.{Option, Some, None, Result, Ok, Err, map, IfOk, IfSome, IsSome, IsTrue}
use Rattle.std.specs.Option.{option_map}
use Rattle.std.specs.List.{AllByRecursion as Each}
use Rattle.gal_io.specs.Count.{IsCountedIf}
use Rattle.packet_fields.specs.declared.packet.Packet.{Packet}
use Rattle.flat_ir.specs.Blocks.{Reading, nothing}
use Rattle.state_store.specs.declared.object.Row.{Row}
use Rattle.state_store.specs.declared.object.ObjectDecl.{ObjectDecl}
use Rattle.state_store.specs.Kept.{have_widths}
use Rattle.state_store.specs.Kinds.{is_table}
use Rattle.state_store.specs.Places.{IsSorted}
use Rattle.split_model.specs.declared.layout.Crossing.{Crossing}
use Rattle.transfer_header.specs.Frames.{up_frame, IsFrame, IsFrameOf}
use Rattle.writeback_table.specs.declared.command.Command.{Command}
use Rattle.writeback_table.specs.declared.command.Command.TheVariants.{Stage, Main, Clear}
use Rattle.writeback_table.specs.declared.command.Update.{Update}
use Rattle.writeback_table.specs.Widths.{fits_update}
use Rattle.writeback_table.specs.Pair.{visible_rows}
use Rattle.switch_ir.specs.Code.{Code}
use Rattle.switch_ir.specs.Meaning.{up_values, goes_up, up_verdict, down_end, down_given}
use Rattle.switch_ir.specs.Staged.{pre_staging, post_staging, EndsBy, EndsDownBy}
use Rattle.switch_ir.specs.Tables.{Told, IsStart, seen_tables, pair_at, told_after, declared_at, has_room_in}
use Rattle.switch_ir.specs.UnderWay.{UnderWay, none_under_way, PassState, HasEntered, HasGoneOn, EndsWith, OthersStay}
use Rattle.switch_ir.specs.UnderWay.{GoesUp, GoesDown, BegunUp, BegunDown, LeavesUp, LeavesDown}
use Rattle.switch_ir.specs.UnderWay.{EndsUpAtOnce, EndsDownAtOnce, DisturbsNone}
use Rattle.switch_ir.specs.declared.port.PortError.{PortError}
use Rattle.switch_ir.specs.declared.port.PortError.TheVariants.{Failed, NoMemory}
use Rattle.switch_ir.specs.declared.port.UpEnd.{UpEnd}
use Rattle.switch_ir.specs.declared.port.UpEnd.TheVariants as up
use Rattle.switch_ir.specs.declared.port.DownEnd.{DownEnd}
use Rattle.switch_ir.specs.declared.port.DownEnd.TheVariants as down
use Rattle.switch_ir.specs.declared.journal.Entry.{Entry}
use Rattle.switch_ir.specs.declared.journal.Entry.TheVariants as entry

pub record PortState : Type 0 where
  -- the code that was loaded last, if any was
  pub code : Option Code
  -- the tables and the bit, where they are told
  pub told : Option Told
  -- the passes that are under way
  pub passes : UnderWay
  -- the calls since the code was loaded, with what they were given and how they ended, in order
  pub journal : List Entry
  -- for how many commands there is memory
  pub spare : ℕ
  -- how many calls failed
  pub faults : ℕ

-- what no answer but that of a load, a command or a stage changes
pub record Keeps (old new : PortState) : Type 0 where
  pub code : new.code ≡ old.code
  pub told : new.told ≡ old.told
  pub passes : new.passes ≡ old.passes
  pub spare : old.spare ≤ new.spare

-- what a stage leaves as it was: the code, the tables and the bit
pub record KeepsTables (old new : PortState) : Type 0 where
  pub code : new.code ≡ old.code
  pub told : new.told ≡ old.told
  pub spare : old.spare ≤ new.spare

-- ## How a call ends

-- the switch failed
abbrev pub has_failed : {A : Type 0} → Result A PortError → Bool
has_failed (Err Failed) = true
has_failed _ = false

-- there was memory
abbrev pub HadMemory : {A : Type 0} → Result A PortError → Type 0
HadMemory (Err NoMemory) = ⊥
HadMemory _ = ⊤

-- the entry of a call with its end; one without memory leaves none
abbrev pub noted : {A : Type 0} → (Result A PortError → Entry) → Result A PortError → List Entry
noted call (Err NoMemory) = []
noted call end = call end ∷ []

-- ## Loading

-- the start tables are told after a load where tables were told before it
abbrev pub StartsTold : Code → Option Told → Option Told → Type 0
StartsTold code None new = new ≡ None
StartsTold code (Some old) new = (told : Told) × (new ≡ Some told) × IsStart code told

-- the state with new code, which ends all passes
pub record IsLoadedWith (loaded : Code) (old new : PortState) : Type 0 where
  pub code : new.code ≡ Some loaded
  pub told : StartsTold loaded old.told new.told
  pub passes : new.passes ≡ none_under_way
  pub journal : new.journal ≡ entry.Load ∷ []
  pub spare : new.spare ≡ 0

-- a call that didn't come about: all is as before, and no entry is made
pub record IsAsBefore (old new : PortState) : Type 0 where
  pub kept : Keeps old new
  pub journal : new.journal ≡ old.journal

abbrev pub LoadsBy : Result (Unit {0}) PortError → Code → PortState → PortState → Type 0
LoadsBy (Ok done) code old new = IsLoadedWith code old new
LoadsBy (Err error) code old new = IsAsBefore old new

pub record Loads (end : Result (Unit {0}) PortError) (code : Code) (old new : PortState) : Type 0 where
  pub state : LoadsBy end code old new
  pub faults : IsCountedIf (has_failed end) old.faults new.faults

-- ## Room for commands

abbrev pub RoomBy : Result (Unit {0}) PortError → ℕ → PortState → PortState → Type 0
RoomBy (Ok done) commands old new =
    (commands ≤ new.spare) × (new.journal ≡ old.journal ++ entry.Room commands ∷ [])
RoomBy (Err error) commands old new = new.journal ≡ old.journal

pub record MakesRoom (end : Result (Unit {0}) PortError) (commands : ℕ) (old new : PortState) : Type 0 where
  pub kept : Keeps old new
  pub room : RoomBy end commands old new
  pub faults : IsCountedIf (has_failed end) old.faults new.faults

-- ## Packets that arrive

abbrev pub up_entry : ℕ → ℕ → List ℕ → Result UpEnd PortError → List Entry
up_entry number port packet end = noted (λ answer. entry.Up number port packet answer) end

-- a frame that goes up has the code's layout, and this number, port and packet, whatever its values
abbrev pub IsUpFrame : Code → ℕ → ℕ → List ℕ → UpEnd → Type 0
IsUpFrame code number port packet (up.Up frame) =
    (values : Crossing → ℕ) × IsFrameOf 1 code.up number port values packet frame
IsUpFrame code number port packet _ = ⊤

-- What a packet comes to over tables: it is finished exactly where the code sends nothing up, with the code's verdict,
-- and else goes up with the code's values.
abbrev pub EndsUp : Code → Told → ℕ → Packet → UpEnd → Type 0
EndsUp code told number packet (up.Finished verdict) = up_verdict code (seen_tables told) packet ≡ Some verdict
EndsUp code told number packet (up.Up frame) =
    (goes_up code (up_values code (seen_tables told) packet) ≡ true)
    × (frame ≡ up_frame code.up number packet.port (up_values code (seen_tables told) packet) packet.bytes)
EndsUp code told number packet _ = ⊤

pub record PassesUp (end : Result UpEnd PortError) (number port : ℕ) (packet : List ℕ) (old new : PortState)
    : Type 0 where
  pub kept : Keeps old new
  pub journal : new.journal ≡ old.journal ++ up_entry number port packet end
  pub faults : IsCountedIf (has_failed end) old.faults new.faults
  pub ends : IfOk end EndsUpAtOnce
  pub frame : (code : Code) → old.code ≡ Some code → IfOk end (IsUpFrame code number port packet)
  pub told : (code : Code) (told : Told) → old.code ≡ Some code → old.told ≡ Some told
      → IfOk end (EndsUp code told number (record { port = port; bytes = packet }))

-- preprocessing is given nothing
abbrev pub IsNothing : Reading → Type 0
IsNothing given = given ≡ nothing

-- A packet arrives, and its pass enters. A pass without a stage above 0 ends at once.
pub record BeginsUp (end : Result UpEnd PortError) (number port : ℕ) (packet : List ℕ) (old new : PortState)
    : Type 0 where
  pub kept : KeepsTables old new
  pub journal : new.journal ≡ old.journal ++ noted (λ answer. entry.BeginUp number port packet answer) end
  pub faults : IsCountedIf (has_failed end) old.faults new.faults
  pub post : new.passes.post ≡ old.passes.post
  pub others : OthersStay number old.passes.pre new.passes.pre
  pub goes : (code : Code) → old.code ≡ Some code → IfOk end (GoesUp (nat_lt 0 code.pre.highest))
  pub pass : (code : Code) → old.code ≡ Some code
      → BegunUp (HasEntered (pre_staging code) IsNothing (record { port = port; bytes = packet }) old.told) end
      (new.passes.pre number)
  pub frame : (code : Code) → old.code ≡ Some code → IfOk end (IsUpFrame code number port packet)
  pub told : (code : Code) (told : Told) → old.code ≡ Some code → old.told ≡ Some told
      → IfOk end (EndsUp code told number (record { port = port; bytes = packet }))

-- The pass of this packet goes on by a stage, or ends with it.
pub record StagesUp (end : Result UpEnd PortError) (number : ℕ) (old new : PortState) : Type 0 where
  pub kept : KeepsTables old new
  pub journal : new.journal ≡ old.journal ++ noted (λ answer. entry.StageUp number answer) end
  pub faults : IsCountedIf (has_failed end) old.faults new.faults
  pub post : new.passes.post ≡ old.passes.post
  pub others : OthersStay number old.passes.pre new.passes.pre
  pub goes : (code : Code) (pass : PassState) → old.code ≡ Some code → old.passes.pre number ≡ Some pass
      → IfOk end (GoesUp (nat_lt (suc pass.stage) code.pre.highest))
  pub pass : (code : Code) (pass : PassState) → old.code ≡ Some code → old.passes.pre number ≡ Some pass
      → LeavesUp (HasGoneOn (pre_staging code) old.told pass) end pass (new.passes.pre number)
  pub frame : (code : Code) (pass : PassState) → old.code ≡ Some code → old.passes.pre number ≡ Some pass
      → IfOk end (IsUpFrame code number pass.packet.port pass.packet.bytes)
  pub told : (code : Code) (pass : PassState) → old.code ≡ Some code → old.passes.pre number ≡ Some pass
      → EndsWith (pre_staging code) old.told pass (λ reads. IfOk end (EndsBy code reads number pass.packet))

-- ## Packets that come down

abbrev pub down_entry : List ℕ → Result DownEnd PortError → List Entry
down_entry frame end = noted (λ answer. entry.Down frame answer) end

-- the verdict is the code's, of what the frame says
abbrev pub EndsDown : Code → Told → List ℕ → DownEnd → Type 0
EndsDown code told frame (down.Verdict verdict) =
    (number port : ℕ) (values : Crossing → ℕ) (packet : List ℕ) → IsFrameOf 2 code.down number port values packet frame
    → verdict ≡ down_end code values (seen_tables told) (record { port = port; bytes = packet })
EndsDown code told frame _ = ⊤

pub record PassesDown (end : Result DownEnd PortError) (frame : List ℕ) (old new : PortState) : Type 0 where
  pub kept : Keeps old new
  pub journal : new.journal ≡ old.journal ++ down_entry frame end
  pub faults : IsCountedIf (has_failed end) old.faults new.faults
  pub ends : IfOk end EndsDownAtOnce
  pub told : (code : Code) (told : Told) → old.code ≡ Some code → old.told ≡ Some told
      → IfOk end (EndsDown code told frame)

-- postprocessing is given what a frame says, and what the code and the packet give
abbrev pub IsHandedDown : Code → (Crossing → ℕ) → Packet → Reading → Type 0
IsHandedDown code values packet given = given ≡ down_given code values packet

-- what holds of the parts of a frame that comes down
abbrev pub OfItsParts : Code → List ℕ → (ℕ → Packet → (Crossing → ℕ) → Type 0) → Type 0
OfItsParts code frame Holds =
    (number port : ℕ) (values : Crossing → ℕ) (packet : List ℕ)
    → IsFrameOf 2 code.down number port values packet frame
    → Holds number (record { port = port; bytes = packet }) values

-- A frame comes down, and the pass of its packet enters. A pass without a stage above 0 ends at once.
pub record BeginsDown (end : Result DownEnd PortError) (frame : List ℕ) (old new : PortState) : Type 0 where
  pub kept : KeepsTables old new
  pub journal : new.journal ≡ old.journal ++ noted (λ answer. entry.BeginDown frame answer) end
  pub faults : IsCountedIf (has_failed end) old.faults new.faults
  pub pre : new.passes.pre ≡ old.passes.pre
  pub others : (code : Code) → old.code ≡ Some code
      → OfItsParts code frame (λ number packet values. OthersStay number old.passes.post new.passes.post)
  pub goes : (code : Code) → old.code ≡ Some code → IfOk end (GoesDown (nat_lt 0 code.post.highest))
  pub pass : (code : Code) → old.code ≡ Some code
      → OfItsParts code frame (λ number packet values.
      BegunDown (HasEntered (post_staging code) (IsHandedDown code values packet) packet old.told) end
      (new.passes.post number))
  pub told : (code : Code) (told : Told) → old.code ≡ Some code → old.told ≡ Some told
      → IfOk end (EndsDown code told frame)

-- The pass of this packet goes on by a stage, or ends with it.
pub record StagesDown (end : Result DownEnd PortError) (number : ℕ) (old new : PortState) : Type 0 where
  pub kept : KeepsTables old new
  pub journal : new.journal ≡ old.journal ++ noted (λ answer. entry.StageDown number answer) end
  pub faults : IsCountedIf (has_failed end) old.faults new.faults
  pub pre : new.passes.pre ≡ old.passes.pre
  pub others : OthersStay number old.passes.post new.passes.post
  pub goes : (code : Code) (pass : PassState) → old.code ≡ Some code → old.passes.post number ≡ Some pass
      → IfOk end (GoesDown (nat_lt (suc pass.stage) code.post.highest))
  pub pass : (code : Code) (pass : PassState) → old.code ≡ Some code → old.passes.post number ≡ Some pass
      → LeavesDown (HasGoneOn (post_staging code) old.told pass) end pass (new.passes.post number)
  pub told : (code : Code) (pass : PassState) → old.code ≡ Some code → old.passes.post number ≡ Some pass
      → EndsWith (post_staging code) old.told pass (λ reads. IfOk end (EndsDownBy code reads pass.packet))

-- the bytes are a frame that may come down to the code that is loaded
abbrev pub IsDownFrame : PortState → List ℕ → Type 0
IsDownFrame state frame = IfSome state.code (λ code. IsFrame 2 code.down frame)

-- ## Commands

abbrev pub told_by : Result (Unit {0}) PortError → Command → Option Told → Option Told
told_by (Ok done) c told = option_map (told_after c) told
told_by (Err error) c told = told

-- a command never ends for want of memory
pub record Commands (end : Result (Unit {0}) PortError) (c : Command) (old new : PortState) : Type 0 where
  pub memory : HadMemory end
  pub code : new.code ≡ old.code
  pub told : new.told ≡ told_by end c old.told
  pub passes : new.passes ≡ old.passes
  pub journal : new.journal ≡ old.journal ++ entry.Command c end ∷ []
  pub spare : suc new.spare ≡ old.spare
  pub faults : IsCountedIf (has_failed end) old.faults new.faults

-- an object that can change, with its declaration
pub record IsReplicatedIn (code : Code) (o : ℕ) (d : ObjectDecl) : Type 0 where
  pub declared : declared_at code.tables o ≡ Some d
  pub changes : is_table d.kind ≡ false

-- a key of a replicated object, in count and widths, and a change of it
abbrev pub IsKeyOf : Code → ℕ → List ℕ → Type 0
IsKeyOf code o key = (d : ObjectDecl) × IsReplicatedIn code o d × IsTrue (have_widths d.keys key)

abbrev pub IsUpdateOf : Code → Update → Type 0
IsUpdateOf code u = (d : ObjectDecl) × IsReplicatedIn code u.object d × IsTrue (fits_update d u)

-- a command names a replicated object of the code, or none
abbrev pub IsCommandOf : Code → Command → Type 0
IsCommandOf code (Stage update) = IsUpdateOf code update
IsCommandOf code (Main update) = IsUpdateOf code update
IsCommandOf code (Clear object key) = IsKeyOf code object key
IsCommandOf code _ = Unit {0}

-- ## Rows

abbrev pub rows_entry : ℕ → Result (List Row) PortError → List Entry
rows_entry o (Ok rows) = entry.Visible o ∷ []
rows_entry o (Err error) = []

abbrev pub fits_row : ObjectDecl → Row → Bool
fits_row d r = have_widths d.keys r.keys && have_widths d.values r.values

abbrev pub entry_of : Row → List ℕ × List ℕ
entry_of r = (r.keys, r.values)

-- rows of an object: not too many, of its counts and widths, and in strictly rising order of their keys
pub record AreRowsOf (d : ObjectDecl) (list : List Row) : Type 0 where
  pub few : length list < 2 ^ 32
  pub fit : Each (λ r. IsTrue (fits_row d r)) list
  pub rising : IsSorted (map entry_of list)

-- the rows are those that lookups see
abbrev pub AreSeen : Told → ℕ → List Row → Type 0
AreSeen told o list = list ≡ visible_rows told.bit (pair_at told.pairs o)

pub record ShowsRows (end : Result (List Row) PortError) (o : ℕ) (old new : PortState) : Type 0 where
  pub kept : Keeps old new
  pub journal : new.journal ≡ old.journal ++ rows_entry o end
  pub faults : IsCountedIf (has_failed end) old.faults new.faults
  pub rows : (code : Code) (d : ObjectDecl) → old.code ≡ Some code → IsReplicatedIn code o d → IfOk end (AreRowsOf d)
  pub told : (told : Told) → old.told ≡ Some told → IfOk end (AreSeen told o)

-- ## Conditions of calls

-- code is loaded
abbrev pub IsLoaded : PortState → Type 0
IsLoaded state = IsSome state.code

-- there is a replicated object of this number
abbrev pub HasReplicated : PortState → ℕ → Type 0
HasReplicated state o = IfSome state.code (λ code. (d : ObjectDecl) × IsReplicatedIn code o d)

-- the command is one of the code that is loaded
abbrev pub CanCommand : PortState → Command → Type 0
CanCommand state c = IfSome state.code (λ code. IsCommandOf code c)

-- where the tables are told, the table that the command touches has room for it
abbrev pub HasRoomFor : PortState → Command → Type 0
HasRoomFor state c = IfSome state.told (λ told. has_room_in told.pairs c ≡ true)

-- it disturbs no pass that is under way
abbrev pub WaitsForNone : PortState → Command → Type 0
WaitsForNone state c = DisturbsNone state.passes c

-- no preprocessing pass of this number is under way, or one is
abbrev pub HasNoUpPass : PortState → ℕ → Type 0
HasNoUpPass state number = state.passes.pre number ≡ None

abbrev pub HasUpPass : PortState → ℕ → Type 0
HasUpPass state number = IsSome (state.passes.pre number)

-- no postprocessing pass of the frame's number is under way
abbrev pub HasNoDownPassOf : PortState → List ℕ → Type 0
HasNoDownPassOf state frame =
    IfSome state.code (λ code. OfItsParts code frame (λ number packet values. state.passes.post number ≡ None))

abbrev pub HasDownPass : PortState → ℕ → Type 0
HasDownPass state number = IsSome (state.passes.post number)
