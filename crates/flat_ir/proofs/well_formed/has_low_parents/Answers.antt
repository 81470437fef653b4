use Rattle.std.proofs.Common.{length, nat_le, sym, ◌∙◌}
use Rattle.flat_ir.specs.Blocks.{block_at}
use Rattle.flat_ir.proofs.Fails.{not_below}
use Rattle.flat_ir.proofs.well_formed.has_low_parents.Goals as goal

pub returns-then-not-stands_low : goal.returns-then-not-stands_low
returns-then-not-stands_low c =
    sym (not_below (length c.args.blocks.now) (λ k. nat_le (block_at c.args.blocks.now k).parent k) c.loop-place.place c.loop-place-test.true (sym c.stands_low.ensures ∙ c.if-not-stands_low.true))
