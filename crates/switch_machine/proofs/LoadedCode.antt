-- What holds of the code that is loaded, and of its passes.
use Rattle.std.proofs.Common.{◌≡◌, ◌∙◌, ◌<◌, ◌^◌, suc, List, arith, ℕ, refl, true, length, Option, Some, None, Result, Ok, Err, IfOk, IfSome, ap, subst, sym}
use Rattle.std.specs.Prelude.{Contains, nat_lt, OnOk}
use Rattle.transfer_header.specs.Registers.{Registers, content_of}
use Rattle.transfer_header.specs.Steps.{AreKeptApart}
use Rattle.transfer_header.proofs.Laws.{plans_of_spans-apart}
use Rattle.switch_ir.specs.Sound.{CanBeRun}
use Rattle.switch_ir.specs.Spans.{AreNumbered, Written}
use Rattle.switch_machine.specs.declared.loaded_pass.LoadedPass.{LoadedPass}
use Rattle.switch_machine.specs.declared.numbering.ValueRange.{ValueRange}
use Rattle.switch_machine.specs.declared.sides.Side.{Side}
use Rattle.switch_machine.specs.declared.sides.Side.TheVariants.{Before, Behind}
use Rattle.switch_machine.specs.Ranges.{entries, AreOrdered, AreRanges}
use Rattle.switch_machine.specs.Sides.{staging, of_side}
use Rattle.switch_machine.specs.LoadedPasses.{IsPassOf, StaysMade, IsMadeBy, IsPassAs}
use Rattle.switch_machine.proofs.Members.{each_has, of_contains}
use Rattle.switch_machine.proofs.PassValues.{its_spans, IsRanged}
use Rattle.flat_ir.specs.Blocks.{nothing}
use Rattle.switch_ir.specs.Code.{Code, code_of}
use Rattle.switch_machine.specs.ActivePasses.{active_in}
use Rattle.switch_machine.specs.UnderWay.{passes_by, passes_of, IsGiven, passes_on, shown, GoneOn, HasGoneOnAt, HasStagesLeft, Puts, StaysLoaded}
use Rattle.std.specs.Option.{option_map}
use Rattle.std.proofs.lemmas.Bool.{ltb-true}
use Rattle.std.proofs.lemmas.Option.{same_Some, none-some}
use Rattle.flat_ir.specs.Plan.{RegisterPlan}
use Rattle.transfer_header.specs.Plans.{IsPlanOf}
use Rattle.switch_ir.specs.Tables.{Told}
use Rattle.switch_ir.specs.UnderWay.{HasGoneOn, Passes, PassState}
use Rattle.switch_ir.specs.declared.port.UpEnd.{UpEnd}
use Rattle.switch_machine.specs.declared.loaded.Loaded.{Loaded}
use Rattle.switch_machine.specs.Loading.{code_in, loaded_code}

small : (code : Code) → code.values < 2 ^ 32 → (had : List Written) → AreNumbered code.values had → (w : Written) → Contains had w → suc w.number < 2 ^ 32
small code few had numbered w there =
    omega (arith, each_has (λ (x : Written). x.number < code.values) had numbered w (of_contains had w there), few)

ranged_on : (side : Side) (code : Code) (ranges : List ValueRange) → CanBeRun code → AreOrdered code → code.values < 2 ^ 32
    → AreRanges (entries code.tables (staging side code).handed (staging side code).code) ranges → IsRanged (staging side code) ranges
ranged_on Before code ranges can ordered few are =
    record { order = ordered.pre; small = small code few _ can.stages.pre_numbers; stages = can.stages.pre; others = tt; are = are }
ranged_on Behind code ranges can ordered few are =
    record { order = ordered.post; small = small code few _ can.stages.post_numbers; stages = can.stages.post; others = ordered.others; are = are }

-- the ranges of a pass are those of the values of its side
pub ranged_of : (code : Code) (l : LoadedPass) → IsPassOf code l → IsRanged (staging l.side code) l.numbering
ranged_of code l is = ranged_on l.side code l.numbering is.can is.ordered is.few is.are

-- in registers by its plan values that are needed at one step are apart
pub kept_apart : (code : Code) (l : LoadedPass) → IsPassOf code l → (registers : Registers) → registers.plan ≡ l.registers.plan
    → AreKeptApart (its_spans (staging l.side code)) registers
kept_apart code l is registers same = plans_of_spans-apart (its_spans (staging l.side code)) is.plan registers is.of_spans (same ∙ is.planned_by)

-- passes that stay are told as before
pub passes_stay : (code : Code) {old new : LoadedPass} → StaysMade old new → new.active ≡ old.active → passes_of code new ≡ passes_of code old
passes_stay code same active = λ i. passes_by (staging (same.side i) code) (same.ranges i) (same.plan i) (active_in (active i))

pub both_stay : {a b c : LoadedPass} → StaysMade a b → StaysMade b c → StaysMade a c
both_stay one two = record {
  side = two.side ∙ one.side;
  stages = two.stages ∙ one.stages;
  ranges = two.ranges ∙ one.ranges;
  plan = two.plan ∙ one.plan;
  marks = two.marks ∙ one.marks;
}

-- a pass before the server is given nothing
pub nothing_given : (code : Code) (l : LoadedPass) → ((n : ℕ) → content_of l.registers n ≡ 0) → IsGiven code l nothing
nothing_given code l zeros = record { begun = λ v n is there. zeros n; others = λ v n is other. refl; unknown = λ v none. refl }

-- it can be run
pub can_of : (loaded : Option Loaded) (code : Code) → code_in loaded ≡ Some code → CanBeRun code
can_of (Some l) code is = subst CanBeRun (same_Some (loaded_code l) code is) l.can
can_of None code is = absurd (none-some code is)

-- what is there
pub if_some : {X : Type 0} (o : Option X) (x : X) (P : X → Type 0) → IfSome o P → o ≡ Some x → P x
if_some (Some y) x P h e = subst P (same_Some y x e) h
if_some None x P h e = absurd (none-some x e)

-- ## Its passes

-- a pass that stays is that of the code
pub pass_stays : (code : Code) {old new : LoadedPass} → StaysMade old new → IsPassOf code old → IsPassOf code new
pass_stays code same is = rw (same.side, same.ranges, same.plan, same.stages, same.marks) is

pub made_stays : (side : Side) (code : Code) (plan : RegisterPlan) {old new : LoadedPass} → StaysMade old new → IsMadeBy side code plan old
    → IsMadeBy side code plan new
made_stays side code plan same is = record {
  side_is = same.side ∙ is.side_is;
  ranges = rw same.ranges is.ranges;
  stages = rw (same.ranges, same.stages) is.stages;
  planned = same.plan ∙ is.planned;
  marks = same.marks ∙ is.marks;
}

pass_of : (side : Side) (code : Code) (plan : RegisterPlan) (l : LoadedPass) → CanBeRun code → AreOrdered code → code.values < 2 ^ 32
    → IsPlanOf (its_spans (staging side code)) plan → IsMadeBy side code plan l → IsPassOf code l
pass_of side code plan l can ordered few spans is =
    subst (λ (s : Side). IsPassAs code s l.numbering l.registers.plan l.stages (length l.marks.items)) (sym is.side_is) (record {
      can = can;
      ordered = ordered;
      few = few;
      are = is.ranges;
      plan = plan;
      of_spans = spans;
      planned_by = is.planned;
      ready = is.stages;
      marked = is.marks;
    })

pub pass_is : (side : Side) (l : Loaded) → IsPassOf (code_of l.code) (of_side side l.before l.behind)
pass_is Before l = pass_of Before (code_of l.code) l.code.pre.plan l.before l.can l.ordered l.few l.code.pre_plan l.pre
pass_is Behind l = pass_of Behind (code_of l.code) l.code.post.plan l.behind l.can l.ordered l.few l.code.post_plan l.post

pub side_is : (side : Side) (l : Loaded) → (of_side side l.before l.behind).side ≡ side
side_is Before l = l.pre.side_is
side_is Behind l = l.post.side_is

-- a pass of a side that has stages left
pub stages_left : (side : Side) (l : Loaded) (number : ℕ)
    → ((before : PassState) → passes_on side l number ≡ Some before → nat_lt (suc before.stage) (staging side (code_of l.code)).code.highest ≡ true)
    → HasStagesLeft number (of_side side l.before l.behind)
stages_left side l number left f there =
    let pass = of_side side l.before l.behind in
    let code = code_of l.code in
    let is = pass_is side l in
    let below = ltb-true (suc f.stage) (staging side code).code.highest
    (left (shown (staging pass.side code) pass.numbering pass.registers.plan f) (ap (option_map (shown (staging pass.side code) pass.numbering pass.registers.plan)) there)) in
    omega (arith, below, is.ready.count, ap (λ (s : Side). (staging s code).code.highest) (side_is side l))

-- one that went on
pub gone_on : (side : Side) (l : Loaded) (number : ℕ) (told : Told) (old new : Passes)
    → Puts number (GoneOn (code_of l.code) number told (of_side side l.before l.behind)) old new → Puts number (HasGoneOnAt side number told l) old new
gone_on side l number told old new h = (
  h.0,
  subst (λ (s : Side). (before : PassState) → passes_on side l number ≡ Some before → HasGoneOn (staging s (code_of l.code)) (Some told) before h.0) (side_is side l) h.1,
  h.2,
)

-- ## One step after another

pub stays_both : (side : Side) (a b c : Loaded) → StaysLoaded side a b → StaysLoaded side b c → StaysLoaded side a c
stays_both side a b c one two = record { code = two.code ∙ one.code; other = two.other ∙ one.other }

-- a call that was noted ends so, with the passes that it had made
pub closed : {E : Type 0} (end : UpEnd) (passes last : Passes) (IsTaken : UpEnd → Passes → Type 0) (r : Result UpEnd E) → IsTaken end passes → IfOk r (λ e. e ≡ end)
    → OnOk r (last ≡ passes) → IfOk r (λ e. IsTaken e last)
closed end passes last IsTaken (Ok e) h is same = rw (is, same) h
closed end passes last IsTaken (Err e) h is same = tt

-- the passes of a side
pub at_side : (side : Side) (l : Loaded) → of_side side (passes_on Before l) (passes_on Behind l) ≡ passes_on side l
at_side Before l = refl
at_side Behind l = refl
