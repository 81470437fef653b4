-- Passes that are loaded: by which plan they are made, and what is known of one while it is computed.
use Rattle.std.specs.Prelude.{◌≡◌, ◌<◌, ◌^◌, ℕ, suc, List, length, Option, Some}
use Rattle.std.specs.Coded.{Coded-set, coded_ℕ, coded_option}
use Rattle.flat_ir.specs.Plan.{RegisterPlan, plan_code}
use Rattle.transfer_header.specs.Plans.{IsPlanOf}
use Rattle.switch_ir.specs.Passes.{Code}
use Rattle.switch_ir.specs.Sound.{CanBeRun}
use Rattle.switch_ir.specs.Spans.{pass_spans}
use Rattle.switch_machine.specs.declared.loaded_pass.LoadedPass.{LoadedPass}
use Rattle.switch_machine.specs.declared.numbering.ValueRange.{ValueRange}
use Rattle.switch_machine.specs.declared.ready.ReadyStep.{ReadyStep}
use Rattle.switch_machine.specs.declared.sides.Side.{Side}
use Rattle.switch_machine.specs.Ranges.{entries, ranges_prop, AreOrdered, AreRanges}
use Rattle.switch_machine.specs.Ready.{ready_prop, AreReady}
use Rattle.switch_machine.specs.Sides.{side_code, staging}

-- A pass is made for code by a plan of its registers: it is of this side, there are ranges for its values, its instructions
-- stage by stage, registers of the plan, and a mark for each block.
pub record IsMadeBy (side : Side) (code : Code) (plan : RegisterPlan) (l : LoadedPass) : Type 0 where
  pub side_is : l.side ≡ side
  pub ranges : AreRanges (entries code.tables (staging side code).handed (staging side code).code) l.numbering
  pub stages : AreReady l.numbering plan (staging side code).code.steps (staging side code).code.highest l.stages
  pub planned : l.registers.plan ≡ Some plan
  pub marks : length l.marks.items ≡ suc (length (staging side code).code.blocks)

-- this has at most one proof
pub made_prop : (side : Side) (code : Code) (plan : RegisterPlan) (l : LoadedPass) → IsProp (IsMadeBy side code plan l)
made_prop side code plan l a b = λ i. record {
  side_is = Coded-set side_code _ _ a.side_is b.side_is i;
  ranges = ranges_prop (entries code.tables (staging side code).handed (staging side code).code) l.numbering a.ranges b.ranges i;
  stages = ready_prop l.numbering plan (staging side code).code.steps (staging side code).code.highest l.stages a.stages b.stages i;
  planned = Coded-set (coded_option plan_code) _ _ a.planned b.planned i;
  marks = Coded-set coded_ℕ _ _ a.marks b.marks i;
}

-- what is known of the pass of a side of code, so that it can be computed: its ranges, the plan of its registers, its stages, and how many marks there are
pub record IsPassAs (code : Code) (side : Side) (ranges : List ValueRange) (planned : Option RegisterPlan) (stages : List (List ReadyStep)) (marks : ℕ)
    : Type 0 where
  pub can : CanBeRun code
  pub ordered : AreOrdered code
  pub few : code.values < 2 ^ 32
  pub are : AreRanges (entries code.tables (staging side code).handed (staging side code).code) ranges
  pub plan : RegisterPlan
  pub of_spans : IsPlanOf (pass_spans code.tables (staging side code).handed (staging side code).layout (staging side code).code) plan
  pub planned_by : planned ≡ Some plan
  pub ready : AreReady ranges plan (staging side code).code.steps (staging side code).code.highest stages
  pub marked : marks ≡ suc (length (staging side code).code.blocks)

-- it is the pass of its side of this code
abbrev pub IsPassOf : Code → LoadedPass → Type 0
IsPassOf code l = IsPassAs code l.side l.numbering l.registers.plan l.stages (length l.marks.items)

-- all but numbers, marks and passes under way is as it was
pub record StaysMade (old new : LoadedPass) : Type 0 where
  pub side : new.side ≡ old.side
  pub stages : new.stages ≡ old.stages
  pub ranges : new.numbering ≡ old.numbering
  pub plan : new.registers.plan ≡ old.registers.plan
  pub marks : length new.marks.items ≡ length old.marks.items
