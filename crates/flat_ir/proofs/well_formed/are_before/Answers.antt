use Rattle.std.proofs.Common.{◌&&◌, ◌-◌, sym, ap, ◌∙◌, arith, get_or, false}
use Rattle.std.proofs.lemmas.Bool.{lt-ltb}
use Rattle.flat_ir.specs.declared.program.Block.{Block}
use Rattle.flat_ir.specs.Tests.{are_before}
use Rattle.flat_ir.proofs.Fails.{before_at}
use Rattle.flat_ir.proofs.Lines.{parent_below}
use Rattle.flat_ir.proofs.well_formed.are_before.Goals as goal

pub loop-number-preserved : goal.loop-number-preserved
loop-number-preserved c =
    let blocks = c.args.blocks.now in
    let d : Block = record { parent = 0; cond = record { instruction = 0; result = 0 }; polarity = false } in
    let n = c.loop-number.number in
    let up = get_or blocks (n - 1) d in
    let below = parent_below blocks c.requires.parents n d c.loop-number-test.true c.loop-number.invariant.1 in (
      sym (before_at blocks c.requires.parents c.args.i n d c.loop-number-test.true c.loop-number.invariant.1 ∙ ap (λ b. b && are_before blocks c.args.i up.parent) (lt-ltb up.cond.instruction c.args.i c.if-at-i.false)) ∙ c.loop-number.invariant.0,
      omega (arith, below, c.loop-number.invariant.1),
    )
