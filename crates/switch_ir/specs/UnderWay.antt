-- Passes that are under way, and what a call leaves of them. A pass is known by its kind and by the number of its
-- packet.
use Rattle.std.specs.Prelude.{◌≡◌, ◌≢◌, ℕ, suc, Bool, true, false, Option, Some, None, Result, Ok, Err, ⊤}
use Rattle.packet_fields.specs.declared.packet.Packet.{Packet}
use Rattle.flat_ir.specs.Blocks.{Reading}
use Rattle.writeback_table.specs.declared.command.Command.{Command}
use Rattle.writeback_table.specs.Views.{disturbs}
use Rattle.switch_ir.specs.Staged.{Numbers, Staging, IsEntered, IsStaged, last_numbers}
use Rattle.switch_ir.specs.Tables.{Told, view_of}
use Rattle.switch_ir.specs.declared.port.PortError.{PortError}
use Rattle.switch_ir.specs.declared.port.UpEnd.{UpEnd}
use Rattle.switch_ir.specs.declared.port.UpEnd.TheVariants as up
use Rattle.switch_ir.specs.declared.port.DownEnd.{DownEnd}
use Rattle.switch_ir.specs.declared.port.DownEnd.TheVariants as down

-- what a port that tells its tables tells of a pass: the bit that stood at its entry, and what it knows
pub record ToldPass : Type 0 where
  pub bit : Bool
  pub numbers : Numbers

pub record PassState : Type 0 where
  -- the packet with its port
  pub packet : Packet
  -- the stage that is done
  pub stage : ℕ
  pub told : Option ToldPass

-- the passes of a kind, by the number of their packet
abbrev pub Passes : Type 0
Passes = ℕ → Option PassState

abbrev pub no_passes : Passes
no_passes number = None

-- the passes under way over packets that arrived, and over those that came down
pub record UnderWay : Type 0 where
  pub pre : Passes
  pub post : Passes

abbrev pub none_under_way : UnderWay
none_under_way = record { pre = no_passes; post = no_passes }

-- ## What a call leaves

-- every other pass of the kind stays as it is
abbrev pub OthersStay : ℕ → Passes → Passes → Type 0
OthersStay number old new = (n : ℕ) → number ≢ n → new n ≡ old n

-- what is told of a pass at its entry, where the tables are told
abbrev pub EntersTold : Staging → (Reading → Type 0) → Packet → Option Told → Option ToldPass → Type 0
EntersTold p IsGivenTo packet None pass = pass ≡ None
EntersTold p IsGivenTo packet (Some told) pass =
    (own : ToldPass) × (pass ≡ Some own) × (own.bit ≡ told.bit)
    × ((given : Reading) → IsGivenTo given → IsEntered p given (view_of own.bit told.pairs) packet own.numbers)

-- a pass that entered
pub record HasEntered (p : Staging) (IsGivenTo : Reading → Type 0) (arrived : Packet) (tables : Option Told)
    (pass : PassState) : Type 0 where
  pub packet : pass.packet ≡ arrived
  pub stage : pass.stage ≡ 0
  pub told : EntersTold p IsGivenTo arrived tables pass.told

-- what is told of a pass after a stage; where the tables aren't told, nothing is
abbrev pub StagesTold : Staging → ℕ → Packet → Option Told → Option ToldPass → Option ToldPass → Type 0
StagesTold p t packet None old new = new ≡ None
StagesTold p t packet (Some told) None new = new ≡ None
StagesTold p t packet (Some told) (Some old) new =
    (own : ToldPass) × (new ≡ Some own) × (own.bit ≡ old.bit)
    × IsStaged p t old.numbers (view_of old.bit told.pairs) packet own.numbers

-- a pass that went on by a stage
pub record HasGoneOn (p : Staging) (tables : Option Told) (old new : PassState) : Type 0 where
  pub packet : new.packet ≡ old.packet
  pub stage : new.stage ≡ suc old.stage
  pub told : StagesTold p (suc old.stage) old.packet tables old.told new.told

-- the numbers with which a told pass ends
abbrev pub EndsWith : Staging → Option Told → PassState → (Reading → Type 0) → Type 0
EndsWith p told pass IsAnswer =
    (tables : Told) (own : ToldPass) → told ≡ Some tables → pass.told ≡ Some own
    → IsAnswer (last_numbers p (suc pass.stage) own.numbers (view_of own.bit tables.pairs) pass.packet)

-- ## How a pass goes on

-- a pass has stages left just where it goes on
abbrev pub GoesUp : Bool → UpEnd → Type 0
GoesUp left up.Going = left ≡ true
GoesUp left _ = left ≡ false

abbrev pub GoesDown : Bool → DownEnd → Type 0
GoesDown left down.Going = left ≡ true
GoesDown left _ = left ≡ false

-- What a call that begins a pass leaves of it: where the pass has stages left it is under way, as this says, and else
-- none is.
abbrev pub BegunUp : (PassState → Type 0) → Result UpEnd PortError → Option PassState → Type 0
BegunUp IsNew (Ok up.Going) new = (pass : PassState) × (new ≡ Some pass) × IsNew pass
BegunUp _ _ new = new ≡ None

abbrev pub BegunDown : (PassState → Type 0) → Result DownEnd PortError → Option PassState → Type 0
BegunDown IsNew (Ok down.Going) new = (pass : PassState) × (new ≡ Some pass) × IsNew pass
BegunDown _ _ new = new ≡ None

-- What a stage leaves of its pass: where the pass goes on it is under way, as this says; where the call didn't come
-- about it is as before; and else it is under way no longer.
abbrev pub LeavesUp : (PassState → Type 0) → Result UpEnd PortError → PassState → Option PassState → Type 0
LeavesUp IsNew (Ok up.Going) old new = (pass : PassState) × (new ≡ Some pass) × IsNew pass
LeavesUp IsNew (Ok end) old new = new ≡ None
LeavesUp IsNew (Err error) old new = new ≡ Some old

abbrev pub LeavesDown : (PassState → Type 0) → Result DownEnd PortError → PassState → Option PassState → Type 0
LeavesDown IsNew (Ok down.Going) old new = (pass : PassState) × (new ≡ Some pass) × IsNew pass
LeavesDown IsNew (Ok end) old new = new ≡ None
LeavesDown IsNew (Err error) old new = new ≡ Some old

-- a pass of one event has no stages left
abbrev pub EndsUpAtOnce : UpEnd → Type 0
EndsUpAtOnce up.Going = ⊥
EndsUpAtOnce _ = ⊤

abbrev pub EndsDownAtOnce : DownEnd → Type 0
EndsDownAtOnce down.Going = ⊥
EndsDownAtOnce _ = ⊤

-- ## Commands while passes are under way

-- the command disturbs none of these passes whose bit is told
abbrev pub DisturbsNoneOf : Passes → Command → Type 0
DisturbsNoneOf passes command =
    (number : ℕ) (pass : PassState) (own : ToldPass) → passes number ≡ Some pass → pass.told ≡ Some own
    → disturbs own.bit command ≡ false

pub record DisturbsNone (passes : UnderWay) (command : Command) : Type 0 where
  pub pre : DisturbsNoneOf passes.pre command
  pub post : DisturbsNoneOf passes.post command
