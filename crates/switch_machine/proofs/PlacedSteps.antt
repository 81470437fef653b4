-- Instructions by place, one after the other, and stages of them.
use Rattle.std.proofs.Common.{◌≡◌, ◌∙◌, ◌<◌, ◌+◌, ℕ, zero, suc, false, List, [], ◌∷◌, length, map, drop, refl, sym, ap, subst, add-one, arith, get_or, ◌≤◌, ◌^◌}
use Rattle.std.proofs.Common.{Option, Some, None}
use Rattle.std.specs.List.{AllByRecursion as Each}
use Rattle.std.specs.Prelude.{slice_index_or, slice_index, slice_set, unwrap_or}
use Rattle.std.proofs.lemmas.List.{length-map, length-set, get_or_past, set_past}
use Rattle.std.proofs.Math.ListN.{get_or-map}
use Rattle.packet_fields.specs.declared.packet.Packet.{Packet}
use Rattle.state_store.specs.Store.{Store}
use Rattle.flat_ir.specs.Blocks.{Reading, nothing}
use Rattle.flat_ir.specs.Operands.{CanRun}
use Rattle.flat_ir.specs.Program.{work_of}
use Rattle.flat_ir.specs.Run.{results}
use Rattle.transfer_header.specs.Registers.{Registers, placed, content_of, number_by, place_by, place_of, set_by, written}
use Rattle.switch_machine.specs.declared.ready.ReadyStep.{ReadyStep}
use Rattle.switch_machine.specs.Ready.{all_placed, placed_at, placed_gives, places_of, reads_at, ready_at, ready_gives, ready_of, CanReady, by_place}
use Rattle.switch_machine.specs.Ready.{known_place, no_place, place_in, place_name, AreReady}
use Rattle.lemmas.proofs.Lists.{each_or, folded_item}
use Rattle.transfer_header.proofs.PlacedNumbers.{placed_behind}
use Rattle.flat_ir.specs.declared.program.ValueId.{ValueId}
use Rattle.flat_ir.specs.Plan.{RegisterPlan, register_of}
use Rattle.transfer_header.specs.Steps.{pairs_written}
use Rattle.switch_ir.specs.Code.{PassCode, Step}
use Rattle.switch_machine.specs.declared.numbering.ValueRange.{ValueRange}
use Rattle.switch_machine.specs.Numbers.{content_at, number_in, reads_by, stage_gives}
use Rattle.switch_machine.specs.Planned.{registers_at, stage_done}
use Rattle.switch_machine.specs.Staged.{of_stage}
use Rattle.transfer_header.proofs.Writes.{size_by}
use Rattle.switch_ir.specs.Tables.{seen_tables, Told}

-- an instruction that is placed can be computed
pub ready_can : (steps : List ReadyStep) (i : ℕ) (s : ReadyStep) → Each CanReady (map ready_of steps) → i < length steps → s ≡ get_or steps i s
    → CanRun (work_of s.kind)
ready_can steps i s can lt is =
    subst CanReady (get_or-map ready_of steps i s ∙ ap ready_of (sym is))
    (each_or CanReady (map ready_of steps) i (ready_of s) can (omega (arith, lt, length-map steps ready_of)))

-- one instruction more is computed
pub ready_more : (reads : Reading) (tables : Store) (packet : Packet) (steps : List ReadyStep) (i : ℕ) (s : ReadyStep) (before after all : Registers)
    → i < length steps → s ≡ get_or steps i s
    → after ≡ all_placed before (placed_gives (places_of s.places) (results reads false tables packet (work_of s.kind)))
    → all_placed before (ready_gives (map ready_of (drop i steps)) reads tables packet) ≡ all
    → all_placed after (ready_gives (map ready_of (drop (i + 1) steps)) reads tables packet) ≡ all
ready_more reads tables packet steps i s before after all lt is more so =
    rw (more, ← placed_behind) (rw (folded_item (map ready_of) steps i s lt is) at so)

-- ## Stages

-- writing leaves the plan, and as many numbers as there were
pub plan_placed : (registers : Registers) (pairs : List (ℕ × ℕ)) → (all_placed registers pairs).plan ≡ registers.plan
plan_placed registers [] = refl
plan_placed registers (p ∷ ps) = plan_placed (placed registers p.0 p.1) ps

pub count_placed : (registers : Registers) (pairs : List (ℕ × ℕ)) → length (all_placed registers pairs).numbers ≡ length registers.numbers
count_placed registers [] = refl
count_placed registers (p ∷ ps) = count_placed (placed registers p.0 p.1) ps ∙ length-set registers.numbers p.0 p.1

module _ (stages : List (List ReadyStep)) (tables : Store) (packet : Packet) (start : Registers) where
  pub none_placed : start ≡ placed_at stages tables packet start 0
  unfolding placed_at
  none_placed = refl

  -- once a stage is written, the registers are those before the next
  pub stage_more : (t : ℕ) (own : List ReadyStep) → own ≡ slice_index_or stages t [] → (registers after : Registers)
      → registers ≡ placed_at stages tables packet start t
      → after ≡ all_placed registers (ready_gives (map ready_of own) (reads_at registers.numbers) tables packet)
      → after ≡ placed_at stages tables packet start (t + 1)
  unfolding placed_at
  stage_more t own is registers after before written = rw (written, is, before, add-one)

  pub plan_placed_at : (t : ℕ) → (placed_at stages tables packet start t).plan ≡ start.plan
  unfolding placed_at
  plan_placed_at zero = refl
  plan_placed_at (suc t) =
      let before = placed_at stages tables packet start t in
      plan_placed before (ready_gives (ready_at stages t) (reads_at before.numbers) tables packet) ∙ plan_placed_at t

  pub count_placed_at : (t : ℕ) → length (placed_at stages tables packet start t).numbers ≡ length start.numbers
  unfolding placed_at
  count_placed_at zero = refl
  count_placed_at (suc t) =
      let before = placed_at stages tables packet start t in
      count_placed before (ready_gives (ready_at stages t) (reads_at before.numbers) tables packet) ∙ count_placed_at t

-- the numbers that are left hang on the numbers alone
pub numbers_placed : (one other : Registers) (pairs : List (ℕ × ℕ)) → one.numbers ≡ other.numbers → (all_placed one pairs).numbers ≡ (all_placed other pairs).numbers
numbers_placed one other [] same = same
numbers_placed one other (p ∷ ps) same =
    numbers_placed (placed one p.0 p.1) (placed other p.0 p.1) ps (ap (λ (ns : List ℕ). (placed (record { plan = one.plan; numbers = ns }) p.0 p.1).numbers) same)

-- ## One value

read_by : (numbers : List ℕ) → length numbers < 2 ^ 32 → (place : Option ℕ) → slice_index numbers (unwrap_or place no_place) ≡ number_by numbers place
read_by numbers few None = get_or_past numbers no_place 0 (omega (arith, few))
read_by numbers few (Some place) = refl

set_in : (numbers : List ℕ) → length numbers < 2 ^ 32 → (place : Option ℕ) (to : ℕ) → slice_set numbers (unwrap_or place no_place) to ≡ set_by numbers place to
set_in numbers few None to = set_past numbers no_place to (omega (arith, few))
set_in numbers few (Some place) to = refl

module _ (plan : RegisterPlan) (registers : Registers) (planned : registers.plan ≡ Some plan) (few : length registers.numbers < 2 ^ 32) where
  place_is : (n : ℕ) → place_of registers n ≡ register_of plan n
  place_is n = ap (λ (p : Option RegisterPlan). place_by p (length registers.numbers) n) planned

  read_in : (number : Option ℕ) → slice_index registers.numbers (known_place plan number) ≡ content_at (content_of registers) number
  read_in None = get_or_past registers.numbers no_place 0 (omega (arith, few))
  read_in (Some n) = read_by registers.numbers few (register_of plan n) ∙ sym (ap (number_by registers.numbers) (place_is n))

  -- by its place each value is read as by its number
  pub reads_same : (ranges : List ValueRange) → (λ (v : ValueId). reads_at registers.numbers (place_name ranges plan v)) ≡ reads_by ranges (content_of registers)
  reads_same ranges = λ k v. read_in (number_in ranges v) k

  placed_is : (n to : ℕ) → placed registers (place_in plan n) to ≡ written registers n to
  placed_is n to =
      let with_numbers : List ℕ → Registers = λ ns. record { plan = registers.plan; numbers = ns } in
      ap with_numbers (set_in registers.numbers few (register_of plan n) to ∙ ap (λ (o : Option ℕ). set_by registers.numbers o to) (sym (place_is n)))

-- by their places values are written as by their numbers
all_is : (plan : RegisterPlan) (pairs : List (ℕ × ℕ)) (registers : Registers) → registers.plan ≡ Some plan → length registers.numbers < 2 ^ 32
    → all_placed registers (by_place plan pairs) ≡ pairs_written registers pairs
all_is plan [] registers planned few = refl
all_is plan (p ∷ ps) registers planned few =
    ap (λ (rs : Registers). all_placed rs (by_place plan ps)) (placed_is plan registers planned few p.0 p.1)
    ∙ all_is plan ps (written registers p.0 p.1) planned (omega (arith, few, size_by registers.numbers (place_of registers p.0) p.1))

-- ## Stages

module _ (ranges : List ValueRange) (plan : RegisterPlan) (steps : List Step) (highest : ℕ) (stages : List (List ReadyStep))
    (are : AreReady ranges plan steps highest stages) (tables : Store) (packet : Packet) where
  module _ (registers : Registers) (planned : registers.plan ≡ Some plan) (few : length registers.numbers < 2 ^ 32) (t : ℕ) (le : t ≤ highest) where
    -- what a stage gives is written by place as by number
    pub stage_by_place : (reads : Reading) → all_placed registers (ready_gives (ready_at stages t) reads tables packet)
        ≡ pairs_written registers (stage_gives ranges (of_stage t steps) (λ v. reads (place_name ranges plan v)) tables packet)
    stage_by_place reads =
        ap (all_placed registers) (are.gives t le reads tables packet)
        ∙ all_is plan (stage_gives ranges (of_stage t steps) (λ v. reads (place_name ranges plan v)) tables packet) registers planned few

    -- from the numbers that were there before it
    pub step_by_place : all_placed registers (ready_gives (ready_at stages t) (reads_at registers.numbers) tables packet) ≡ stage_done ranges steps t tables packet registers
    step_by_place =
        stage_by_place (reads_at registers.numbers)
        ∙ ap (λ (reads : Reading). pairs_written registers (stage_gives ranges (of_stage t steps) reads tables packet)) (reads_same plan registers planned few ranges)

-- the registers are the same before each stage
module _ (ranges : List ValueRange) (plan : RegisterPlan) (pass : PassCode) (stages : List (List ReadyStep))
    (are : AreReady ranges plan pass.steps pass.highest stages) (tables : Store) (packet : Packet)
    (start : Registers) (planned : start.plan ≡ Some plan) (few : length start.numbers < 2 ^ 32) where
  stages_are : (t : ℕ) → t ≤ suc pass.highest → placed_at stages tables packet start t ≡ registers_at ranges pass tables packet start t
  unfolding placed_at registers_at
  stages_are zero le = refl
  stages_are (suc t) le =
      step_by_place ranges plan pass.steps pass.highest stages are tables packet (placed_at stages tables packet start t)
      (plan_placed_at stages tables packet start t ∙ planned) (omega (arith, few, count_placed_at stages tables packet start t)) t (omega (arith, le))
      ∙ ap (stage_done ranges pass.steps t tables packet) (stages_are t (omega (arith, le)))

  -- and after the last
  pub pass_by_place : placed_at stages tables packet start (length stages) ≡ registers_at ranges pass tables packet start (suc pass.highest)
  pass_by_place = ap (placed_at stages tables packet start) are.count ∙ stages_are (suc pass.highest) (omega arith)

-- what a stage of its own gives without tables, from numbers of which nothing is known
pub given_is : (given : List (List ReadyStep)) (packet : Packet) (none : Told) → none ≡ record { pairs = []; bit = false } → (own : List ReadyStep)
    → own ≡ slice_index_or given 0 [] → ready_gives (map ready_of own) nothing (seen_tables none) packet ≡ ready_gives (ready_at given 0) nothing [] packet
given_is given packet none none_is own own_is =
    ap (λ (t : Told). ready_gives (map ready_of own) nothing (seen_tables t) packet) none_is
    ∙ ap (λ (ss : List ReadyStep). ready_gives (map ready_of ss) nothing [] packet) own_is
