use Rattle.std.proofs.Common.{◌≡◌, ◌∙◌, ◌++◌, ◌∷◌, ◌==◌, [], ℕ, List, ap, cond, map, refl, sym}
use Rattle.switch_ir.specs.declared.code.PassStep.{PassStep}
use Rattle.switch_ir.specs.Code.{pass_step_of}
use Rattle.switch_machine.specs.declared.numbering.ValueRange.{ValueRange}
use Rattle.switch_machine.specs.Numbers.{no_values, range_at}
use Rattle.switch_machine.specs.Ranges.{crossing_entry, entered, step_entry, with_entry, Entry}
use Rattle.switch_machine.proofs.numbering.Numbering.of.Goals as goal

entered_append : (xs ys : List Entry) (before : ℕ → ValueRange) → entered (xs ++ ys) before ≡ entered ys (entered xs before)
entered_append [] ys before = refl
entered_append (e ∷ xs) ys before = entered_append xs ys (λ j. cond (j == e.instruction) (with_entry e (before j)) (before j))

pub returns : goal.returns
returns c =
    let by_steps : List PassStep → List Entry = λ ss. map (step_entry c.args.tables.now) (map pass_step_of ss) in
    let handed = map crossing_entry c.args.handed.now in
    let given = by_steps c.args.pass.now.given in
    let steps = by_steps c.args.pass.now.steps in
    let none : ℕ → ValueRange = λ _. no_values in
    let first : range_at c.put_crossings.new.self ≡ entered handed none =
    λ k i. (c.in_ok-put_crossings.ensures i ∙ ap (λ (rs : List ValueRange). entered handed (range_at rs) i) c.new.ensures.items) k in
    let second : range_at c.put_steps.new.self ≡ entered given (range_at c.put_crossings.new.self) =
    λ k i. (c.in_ok-put_steps.ensures i ∙ ap (λ (ss : List PassStep). entered (by_steps ss) (range_at c.put_crossings.new.self) i) c.as_slice.ensures) k in
    let third : range_at c.put_steps-2.new.self ≡ entered steps (range_at c.put_steps.new.self) =
    λ k i. (c.in_ok-put_steps-2.ensures i ∙ ap (λ (ss : List PassStep). entered (by_steps ss) (range_at c.put_steps.new.self) i) c.as_slice-2.ensures) k in
    let all : range_at c.put_steps-2.new.self ≡ entered (handed ++ (given ++ steps)) none =
    third ∙ ap (entered steps) (second ∙ ap (entered given) first)
    ∙ sym (entered_append given steps (entered handed none)) ∙ sym (entered_append handed (given ++ steps) none) in
    record { first = λ i. ap (λ (f : ℕ → ValueRange). (f i).first) all; count = λ i. ap (λ (f : ℕ → ValueRange). (f i).count) all }
