use Rattle.std.proofs.Common.{◌&&◌, ◌-◌, sym, ap, ◌∙◌, arith, get_or, false}
use Rattle.flat_ir.specs.declared.program.Block.{Block}
use Rattle.flat_ir.specs.Blocks.{is_live}
use Rattle.flat_ir.proofs.Lines.{live_at, parent_below}
use Rattle.flat_ir.proofs.blocks.is_live.Goals as goal

pub loop-number-preserved : goal.loop-number-preserved
loop-number-preserved g c =
    let blocks = c.args.blocks.now in
    let reads = g.R.Numbers.reads c.args.numbers.now in
    let d : Block = record { parent = 0; cond = record { instruction = 0; result = 0 }; polarity = false } in
    let n = c.loop-number.number in
    let up = get_or blocks (n - 1) d in
    let below = parent_below blocks c.requires.parents n d c.loop-number-test.true c.loop-number.invariant.1 in (
      sym (live_at blocks c.requires.parents reads n d c.loop-number-test.true c.loop-number.invariant.1 ∙ ap (λ b. b && is_live blocks reads up.parent) (sym c.holds.ensures ∙ c.if-not-holds.false)) ∙ c.loop-number.invariant.0,
      omega (arith, below, c.loop-number.invariant.1),
    )
