use Rattle.std.proofs.Common.{◌≡◌, ◌<◌, suc, List, length, get_or, true, false, ap, sym, ◌∙◌, subst, arith, add-one}
use Rattle.std.proofs.lemmas.List.{get_or_default}
use Rattle.flat_ir.specs.declared.program.Block.{Block}
use Rattle.flat_ir.specs.Blocks.{block_at}
use Rattle.transfer_header.specs.BlockSteps.{greatest_below}
use Rattle.switch_ir.specs.LastReads.{Adds}
use Rattle.switch_ir.specs.Spans.{is_condition}
use Rattle.switch_ir.proofs.Tested.{conditions_none, conditions_more}
use Rattle.switch_ir.proofs.spans.note_conditions.Goals as goal

abbrev none : Block
none = record { parent = 0; cond = record { instruction = 0; result = 0 }; polarity = false }

pub loop-place-init : goal.loop-place-init
loop-place-init c = conditions_none c.args.blocks.now c.args.steps.now _

pub loop-place-preserved : goal.loop-place-preserved
loop-place-preserved c =
    let blocks = c.args.blocks.now in
    let steps = c.args.steps.now in
    let items = c.as_slice-block-items.result.now in
    let k = c.loop-place.place in
    let within : k < length blocks = omega (arith, c.loop-place-test.true, ap (λ (l : List Block). length l) c.as_slice-block-items.ensures) in
    let is : get_or items k none ≡ block_at blocks k =
    ap (λ (l : List Block). get_or l k none) c.as_slice-block-items.ensures ∙ get_or_default blocks k none (record { parent = 0; cond = record { instruction = 0; result = 0 }; polarity = true }) within
    in
    let at : c.at.result ≡ get_or steps (suc k) 0 = c.at.ensures ∙ ap (λ j. get_or steps j 0) (add-one k) in
    subst (λ m. Adds (λ v. greatest_below (suc m) (is_condition blocks v) steps) c.args.last.now c.note.new.self) (sym (add-one k))
    (conditions_more k blocks (get_or items k none) steps c.at.result c.args.last.now c.loop-place.last c.note.new.self is at c.loop-place.invariant c.note.ensures)

pub returns : goal.returns
returns c =
    let k = c.loop-place.place in
    let end : suc k ≡ length c.args.steps.now =
    omega (arith, c.loop-place.auto.place-end, c.loop-place-test.false, c.requires.count, ap (λ (l : List Block). length l) c.as_slice-block-items.ensures)
    in
    subst (λ m. Adds (λ v. greatest_below m (is_condition c.args.blocks.now v) c.args.steps.now) c.args.last.now c.loop-place.last) end c.loop-place.invariant
