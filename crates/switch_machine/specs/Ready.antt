-- The instructions of a pass with the places of their operands and results among the registers.
use Rattle.std.specs.Prelude.{◌≡◌, ◌≤◌, ◌-◌, ◌^◌, ℕ, zero, suc, Bool, true, false, List, [], ◌∷◌, ◌++◌, length, map, slice_index_or}
use Rattle.std.specs.Prelude.{unwrap_or, Option, Some, None}
use Rattle.std.specs.Coded.{Coded-set, coded_ℕ, coded_list, coded×, le_prop}
use Rattle.std.specs.List.{AllByRecursion as Each, AllByRecursion-prop}
use Rattle.packet_fields.specs.declared.packet.Packet.{Packet}
use Rattle.state_store.specs.Store.{Store}
use Rattle.flat_ir.specs.declared.program.ValueId.{ValueId}
use Rattle.flat_ir.specs.Blocks.{Reading}
use Rattle.flat_ir.specs.Operands.{CanRun}
use Rattle.flat_ir.specs.Plan.{RegisterPlan, register_of}
use Rattle.flat_ir.specs.Program.{Work, operands, work_of}
use Rattle.flat_ir.specs.Run.{results}
pub use Rattle.transfer_header.specs.Ready.{all_placed, first_placed, placed_gives, reads_at}
use Rattle.transfer_header.specs.Registers.{Registers}
use Rattle.transfer_header.specs.Steps.{is_among}
use Rattle.switch_ir.specs.Code.{Step}
use Rattle.switch_ir.specs.Once.{can_step_prop}
use Rattle.switch_ir.specs.Sound.{CanStep}
use Rattle.switch_machine.specs.declared.numbering.ValueRange.{ValueRange}
use Rattle.switch_machine.specs.declared.ready.Places.{Places}
use Rattle.switch_machine.specs.declared.ready.Places.TheVariants.{One, Many}
use Rattle.switch_machine.specs.declared.ready.ReadyStep.{ReadyStep}
use Rattle.switch_machine.specs.Numbers.{number_in, range_at, stage_gives, values}
use Rattle.flat_ir.specs.Renaming.{renamed}
use Rattle.switch_machine.specs.Staged.{of_stage}

-- ## Places

-- a place past all registers
abbrev pub no_place : ℕ
no_place = 2 ^ 32 - 1

-- the place of the register of a value, past all registers where it has none
abbrev pub place_in : RegisterPlan → ℕ → ℕ
place_in plan number = unwrap_or (register_of plan number) no_place

abbrev pub known_place : RegisterPlan → Option ℕ → ℕ
known_place plan None = no_place
known_place plan (Some number) = place_in plan number

-- a value of a pass, named by its place
abbrev pub place_name : List ValueRange → RegisterPlan → ValueId → ValueId
place_name ranges plan v = record { instruction = known_place plan (number_in ranges v); result = 0 }

-- the places of the values of an instruction
abbrev pub places_in : RegisterPlan → ValueRange → List ℕ
places_in plan range = map (place_in plan) (values range)

abbrev pub places_of : Places → List ℕ
places_of (One place) = place ∷ []
places_of (Many places) = places.items

-- ## Instructions by place

-- an instruction whose operands are named by their places, and the places of its results
pub record Ready : Type 0 where
  pub work : Work
  pub places : List ℕ

abbrev pub ready_of : ReadyStep → Ready
ready_of s = record { work = work_of s.kind; places = places_of s.places }

-- an instruction of a pass with the places of its values
abbrev pub resolved : List ValueRange → RegisterPlan → Step → Ready
resolved ranges plan s = record {
  work = renamed (place_name ranges plan) s.work;
  places = places_in plan (range_at ranges s.instruction);
}

abbrev pub CanReady : Ready → Type 0
CanReady r = CanRun r.work

-- what instructions give, each number with its place
abbrev pub ready_gives : List Ready → Reading → Store → Packet → List (ℕ × ℕ)
ready_gives [] reads tables packet = []
ready_gives (r ∷ rs) reads tables packet =
    placed_gives r.places (results reads false tables packet r.work) ++ ready_gives rs reads tables packet

-- the places of all results
abbrev pub targets_of : List Ready → List ℕ
targets_of [] = []
targets_of (r ∷ rs) = r.places ++ targets_of rs

-- numbers with their places
abbrev pub paired : List ℕ → List ℕ → List (ℕ × ℕ)
paired [] numbers = []
paired (place ∷ places) [] = []
paired (place ∷ places) (number ∷ numbers) = (place, number) ∷ paired places numbers

abbrev pub only_numbers : List (ℕ × ℕ) → List ℕ
only_numbers pairs = map (λ (p : ℕ × ℕ). p.1) pairs

-- no instruction reads a place that one before it writes, or that is one of these
abbrev pub IsDirect : List ℕ → List Ready → Type 0
IsDirect written [] = Unit {0}
IsDirect written (r ∷ rs) =
    Each (λ (v : ValueId). is_among v.instruction written ≡ false) (operands r.work) × IsDirect (written ++ r.places) rs

-- what is known of the instructions of a stage: the places of all results, and whether they may go there at once
pub record IsPrepared (steps : List ReadyStep) (targets : List ℕ) (direct : Bool) : Type 0 where
  pub all : targets ≡ targets_of (map ready_of steps)
  pub alone : direct ≡ true → IsDirect [] (map ready_of steps)

-- numbers of values, each with the value's place
abbrev pub by_place : RegisterPlan → List (ℕ × ℕ) → List (ℕ × ℕ)
by_place plan pairs = map (λ (p : ℕ × ℕ). (place_in plan p.0, p.1)) pairs

-- ## Stages by place

-- the instructions of stage t, none past the last stage
abbrev pub ready_at : List (List ReadyStep) → ℕ → List Ready
ready_at stages t = map ready_of (slice_index_or stages t [])

-- no stage has more results
abbrev pub HoldResults : List (List ReadyStep) → ℕ → Type 0
HoldResults stages most = (t : ℕ) → length (targets_of (ready_at stages t)) ≤ most

-- the registers before a stage: each stage reads all that it reads before it writes
unfoldable pub placed_at : List (List ReadyStep) → Store → Packet → Registers → ℕ → Registers
placed_at stages tables packet start zero = start
placed_at stages tables packet start (suc t) =
    let before = placed_at stages tables packet start t in
    all_placed before (ready_gives (ready_at stages t) (reads_at before.numbers) tables packet)

-- Each stage up to the highest has instructions of its own, which give by place what those of the pass give in it.
pub record AreReady
    (ranges : List ValueRange) (plan : RegisterPlan) (steps : List Step) (highest : ℕ) (stages : List (List ReadyStep))
    : Type 0 where
  pub count : length stages ≡ suc highest
  pub can : Each CanStep steps → (t : ℕ) → t ≤ highest → Each CanReady (ready_at stages t)
  pub gives : (t : ℕ) → t ≤ highest → (reads : Reading) (tables : Store) (packet : Packet)
      → ready_gives (ready_at stages t) reads tables packet
      ≡ by_place plan (stage_gives ranges (of_stage t steps) (λ v. reads (place_name ranges plan v)) tables packet)

-- each stage can be computed
abbrev pub CanAll : List (List ReadyStep) → Type 0
CanAll stages = (t : ℕ) → Each CanReady (ready_at stages t)

-- an instruction of this work
abbrev pub lone : Work → Step
lone work = record { instruction = 0; stage = 0; first = 0; work = work }

-- this has at most one proof
can_ready_prop : (r : Ready) → IsProp (CanReady r)
can_ready_prop r a b = λ i. (can_step_prop (lone r.work ∷ []) (a, tt) (b, tt) i).0

pub ready_prop : (ranges : List ValueRange) (plan : RegisterPlan) (steps : List Step) (highest : ℕ) (stages : List (List ReadyStep))
    → IsProp (AreReady ranges plan steps highest stages)
ready_prop ranges plan steps highest stages a b = λ i. record {
  count = Coded-set coded_ℕ _ _ a.count b.count i;
  can = λ all t le. AllByRecursion-prop CanReady can_ready_prop (ready_at stages t) (a.can all t le) (b.can all t le) i;
  gives = λ t le reads tables packet.
      Coded-set (coded_list (coded× coded_ℕ coded_ℕ)) _ _ (a.gives t le reads tables packet)
      (b.gives t le reads tables packet) i;
}

pub can_all_prop : (stages : List (List ReadyStep)) → IsProp (CanAll stages)
can_all_prop stages a b = λ i t. AllByRecursion-prop CanReady can_ready_prop (ready_at stages t) (a t) (b t) i

pub hold_prop : (stages : List (List ReadyStep)) (most : ℕ) → IsProp (HoldResults stages most)
hold_prop stages most a b = λ i t. le_prop (a t) (b t) i
