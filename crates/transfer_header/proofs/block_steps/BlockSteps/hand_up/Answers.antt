use Rattle.std.proofs.Common.{◌≡◌, ◌-◌, ◌<◌, List, get_or, length, refl, ap, sym, ◌∙◌, arith, false}
use Rattle.std.specs.List.{list_any}
use Rattle.flat_ir.specs.declared.program.Block.{Block}
use Rattle.flat_ir.specs.Blocks.{line}
use Rattle.transfer_header.specs.BlockSteps.{greatest}
use Rattle.transfer_header.proofs.SweptBlocks.{agree, all_swept, swept, swept_low, swept_more}
use Rattle.flat_ir.proofs.Laws.{lines_of_blocks-line}
use Rattle.transfer_header.proofs.block_steps.BlockSteps.hand_up.Goals as goal

abbrev none : Block
none = record { parent = 0; cond = record { instruction = 0; result = 0 }; polarity = false }

pub loop-block-init : goal.loop-block-init
loop-block-init c =
    let blocks = c.args.blocks.now in
    record {
      inside = omega (arith, c.len-block.ensures);
      count = refl;
      greatest = λ test. agree (swept blocks test c.len-block.result) (λ b. list_any test (line blocks b)) c.args.self.now (length c.args.self.now)
          (λ b lt. swept_low blocks test c.len-block.result b (omega (arith, lt, c.requires.count, c.len-block.ensures)));
    }

pub loop-block-preserved : goal.loop-block-preserved
loop-block-preserved c =
    let blocks = c.args.blocks.now in
    let block = c.loop-block.block in
    let now = c.loop-block.invariant in
    let some : 0 < block = omega (arith, c.loop-block-test.true) in
    record {
      inside = omega (arith, now.inside);
      count = c.note.ensures.count ∙ now.count;
      greatest = λ test.
          swept_more blocks test c.loop-block.self c.note.new.self block _ c.at.result _ none (λ k. lines_of_blocks-line blocks k c.requires.parents) c.requires.parents
          some now.inside (now.count ∙ c.requires.count) (ap (λ (l : List Block). (get_or l (block - 1) none).parent) c.as_slice.ensures) c.at.ensures (c.note.ensures.greatest (swept blocks test (block - 1))) (now.greatest test);
    }

pub returns-clause-greatest : goal.returns-clause-greatest
returns-clause-greatest c test =
    let blocks = c.args.blocks.now in
    let end : 0 ≡ c.loop-block.block = omega (arith, c.loop-block-test.false) in
    agree test (swept blocks test 0) c.loop-block.self (length c.loop-block.self) (λ b lt. sym (all_swept blocks test b))
    ∙ ap (λ k. greatest (swept blocks test k) c.loop-block.self) end ∙ c.loop-block.invariant.greatest test
