use Rattle.std.proofs.Common.{◌≡◌, ◌∙◌, ◌+◌, ◌==◌, ℕ, List, ap, cond, drop, map, max, sym}
use Rattle.switch_ir.specs.declared.code.PassStep.{PassStep}
use Rattle.switch_ir.specs.Code.{pass_step_of}
use Rattle.switch_machine.specs.declared.numbering.ValueRange.{ValueRange}
use Rattle.switch_machine.specs.Numbers.{range_at}
use Rattle.switch_machine.specs.Ranges.{entered, from_first, step_entry, with_entry, Entry}
use Rattle.lemmas.proofs.Lists.{folded_item}
use Rattle.switch_machine.proofs.numbering.Numbering.put_steps.Goals as goal

pub loop-step-preserved : goal.loop-step-preserved
loop-step-preserved c =
    let tables = c.args.tables.now in
    let steps = c.args.steps.now in
    let k = c.loop-step.step-index in
    let s = c.step-item.result in
    let before = range_at c.loop-step.self in
    let by_steps : List PassStep → List Entry = λ ss. map (step_entry tables) (map pass_step_of ss) in
    let put : range_at c.put.new.self ≡ (λ i. cond (i == s.instruction) (with_entry (step_entry tables (pass_step_of s)) (before i)) (before i)) =
    λ p i. (c.in_ok-put.ensures i
    ∙ ap (λ (n : ℕ). cond (i == s.instruction) (from_first s.first (max (before i).count n)) (before i)) c.value_count-count.ensures) p in
    λ i. ap (λ (after : ℕ → ValueRange). entered (by_steps (drop (k + 1) steps)) after i) put
    ∙ sym (folded_item (λ ss. entered (by_steps ss) before i) steps k s c.loop-step-test.true c.step-item.is)
    ∙ c.loop-step.invariant i
