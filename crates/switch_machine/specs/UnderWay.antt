-- What the machine tells of passes that are under way, and what calls make of them.
use Rattle.std.specs.Prelude.{◌≡◌, ◌<◌, ◌&&◌, ℕ, suc, nat_lt, not, Bool, false, List, length, Option, Some, None}
use Rattle.std.specs.Option.{option_map}
use Rattle.packet_fields.specs.declared.packet.Packet.{Packet}
use Rattle.flat_ir.specs.Blocks.{Reading}
use Rattle.flat_ir.specs.Plan.{RegisterPlan}
use Rattle.transfer_header.specs.Registers.{Registers}
use Rattle.switch_ir.specs.Code.{code_of, Code}
use Rattle.switch_ir.specs.Meaning.{goes_up, pass_values}
use Rattle.switch_ir.specs.Port.{IsUpFrame}
use Rattle.switch_ir.specs.Staged.{last_numbers, Staging}
use Rattle.switch_ir.specs.Tables.{seen_tables, view_of, Told}
use Rattle.switch_ir.specs.UnderWay.{none_under_way, EndsWith, GoesUp, HasEntered, HasGoneOn, Passes, PassState, UnderWay}
use Rattle.switch_ir.specs.declared.port.UpEnd.{UpEnd}
use Rattle.switch_ir.specs.declared.port.UpEnd.TheVariants as up
use Rattle.switch_machine.specs.declared.active_pass.ActivePass.{ActivePass}
use Rattle.switch_machine.specs.declared.loaded.Loaded.{Loaded}
use Rattle.switch_machine.specs.declared.loaded_pass.LoadedPass.{LoadedPass}
use Rattle.switch_machine.specs.declared.numbering.ValueRange.{ValueRange}
use Rattle.switch_machine.specs.declared.sides.Side.{Side}
use Rattle.switch_machine.specs.declared.sides.Side.TheVariants.{Before, Behind}
use Rattle.switch_machine.specs.ActivePasses.{active_in, numbers_in, packet_in, with_pass, NumberedActivePasses}
use Rattle.switch_machine.specs.Keeping.{begins}
use Rattle.switch_machine.specs.Planned.{BeginsWith}
use Rattle.switch_machine.specs.Sides.{of_side, staging, EndsOn, IsOf}

-- ## What it tells of them

-- the registers of a pass, by the plan of the code
abbrev pub held : Option RegisterPlan → ActivePass → Registers
held plan f = record { plan = plan; numbers = f.registers.numbers }

abbrev pub shown : Staging → List ValueRange → Option RegisterPlan → ActivePass → PassState
shown p ranges plan f = record {
  packet = packet_in f;
  stage = f.stage;
  told = Some (record { bit = f.bit; numbers = numbers_in p ranges f.stage (held plan f) });
}

abbrev pub passes_by : Staging → List ValueRange → Option RegisterPlan → NumberedActivePasses → Passes
passes_by p ranges plan active n = option_map (shown p ranges plan) (active n)

abbrev pub passes_of : Code → LoadedPass → Passes
passes_of code l = passes_by (staging l.side code) l.numbering l.registers.plan (active_in l.active)

abbrev pub passes_on : Side → Loaded → Passes
passes_on side l = passes_of (code_of l.code) (of_side side l.before l.behind)

abbrev pub under_way : Option Loaded → UnderWay
under_way None = none_under_way
under_way (Some l) = record { pre = passes_on Before l; post = passes_on Behind l }

-- ## What becomes of them

-- a pass begins with these numbers, by those of its registers
abbrev pub IsGiven : Code → LoadedPass → Reading → Type 0
IsGiven code l given = BeginsWith l.numbering (begins l.numbering (staging l.side code)) given l.registers

-- a pass like this is under way in place of that of a number
abbrev pub Puts : ℕ → (PassState → Type 0) → Passes → Passes → Type 0
Puts number IsNew old new = (pass : PassState) × IsNew pass × (new ≡ with_pass number (Some pass) old)

-- where a pass that began has stages left it is under way, and else all are as before
abbrev pub Begins : ℕ → (PassState → Type 0) → Passes → Passes → UpEnd → Type 0
Begins number IsNew old new up.Going = Puts number IsNew old new
Begins number IsNew old new end = new ≡ old

-- a pass that took a stage goes on, as this says, or is under way no longer
abbrev pub Settles : ℕ → (PassState → Type 0) → Passes → Passes → UpEnd → Type 0
Settles number IsNew old new up.Going = Puts number IsNew old new
Settles number IsNew old new end = new ≡ with_pass number None old

-- how a call ends over the packet of this number, whose pass has stages left or has none, by what this tells
pub record HasEnd (side : Side) (code : Code) (number : ℕ) (packet : Packet) (left : Bool) (IsTold : UpEnd → Type 0) (end : UpEnd) : Type 0 where
  pub goes : GoesUp left end
  pub of : IsOf side end
  pub frame : IsUpFrame code number packet.port packet.bytes end
  pub told : IsTold end

-- a pass begins over tables, from what it is given
pub record Enters (side : Side) (code : Code) (told : Told) (whole : Bool) (number : ℕ) (packet : Packet) (given : Reading) (end : UpEnd) (old new : Passes)
    : Type 0 where
  pub begun : Begins number (HasEntered (staging side code) (λ other. other ≡ given) packet (Some told)) old new end
  pub ends : HasEnd side code number packet (not whole && nat_lt 0 (staging side code).code.highest)
      (EndsOn side code (pass_values (staging side code).code given (seen_tables told) packet) number packet) end

-- how a call ends by which a pass takes a stage
abbrev pub Steps : Side → Code → Told → ℕ → PassState → UpEnd → Type 0
Steps side code told number before =
    HasEnd side code number before.packet (nat_lt (suc before.stage) (staging side code).code.highest)
    (λ end. EndsWith (staging side code) (Some told) before (λ reads. EndsOn side code reads number before.packet end))

-- the pass of a number takes a stage
pub record Stages (side : Side) (code : Code) (told : Told) (number : ℕ) (end : UpEnd) (old new : Passes) : Type 0 where
  pub settles : Settles number (λ pass. (before : PassState) → old number ≡ Some before → HasGoneOn (staging side code) (Some told) before pass) old new end
  pub ends : (before : PassState) → old number ≡ Some before → Steps side code told number before end

-- a pass of this code that entered, over the tables as lookups see them, from what its registers had
abbrev pub Entered : Code → Packet → Told → LoadedPass → PassState → Type 0
Entered code packet told l pass =
    (given : Reading) → IsGiven code l given → HasEntered (staging l.side code) (λ other. other ≡ given) packet (Some told) pass

-- the pass of a number that went on by a stage, over the tables as it sees them
abbrev pub GoneOn : Code → ℕ → Told → LoadedPass → PassState → Type 0
GoneOn code number told l pass =
    (before : PassState) → passes_of code l number ≡ Some before → HasGoneOn (staging l.side code) (Some told) before pass

-- the pass of a number has more than one stage left, or just one
abbrev pub HasStagesLeft : ℕ → LoadedPass → Type 0
HasStagesLeft number l = (f : ActivePass) → active_in l.active number ≡ Some f → suc (suc f.stage) < length l.stages

abbrev pub IsAtLast : ℕ → LoadedPass → Type 0
IsAtLast number l = (f : ActivePass) → active_in l.active number ≡ Some f → suc (suc f.stage) ≡ length l.stages

-- the numbers with which a pass ends
abbrev pub numbers_at_last : Code → Told → LoadedPass → ActivePass → Reading
numbers_at_last code told l f =
    let p = staging l.side code in
    last_numbers p (suc f.stage) (numbers_in p l.numbering f.stage (held l.registers.plan f)) (view_of f.bit told.pairs) (packet_in f)

-- work is left for the server, by the numbers of a pass
abbrev pub leaves_on : Side → Code → Reading → Bool
leaves_on Before code reads = goes_up code reads
leaves_on Behind code reads = false

-- the code, and the passes of the other side, are as before
pub record StaysLoaded (side : Side) (old new : Loaded) : Type 0 where
  pub code : code_of new.code ≡ code_of old.code
  pub other : of_side side (passes_on Behind new) (passes_on Before new) ≡ of_side side (passes_on Behind old) (passes_on Before old)

-- the pass of a number at a side that went on by a stage, over the tables as it sees them
abbrev pub HasGoneOnAt : Side → ℕ → Told → Loaded → PassState → Type 0
HasGoneOnAt side number told l pass =
    (before : PassState) → passes_on side l number ≡ Some before
    → HasGoneOn (staging side (code_of l.code)) (Some told) before pass
