use Rattle.std.proofs.Common.{length, sym, arith, ◌∙◌}
use Rattle.flat_ir.specs.Program.{program_of}
use Rattle.flat_ir.specs.Tests.{is_good_block}
use Rattle.flat_ir.proofs.Fails.{not_below}
use Rattle.flat_ir.proofs.well_formed.has_good_blocks.Goals as goal

pub returns-then-not-is_good_block : goal.returns-then-not-is_good_block
returns-then-not-is_good_block c =
    sym (not_below (length c.args.f.now.blocks) (is_good_block (program_of c.args.f.now)) c.loop-place.place (omega (arith, c.loop-place-test.true, c.len-place-end.ensures)) (sym c.is_good_block.ensures ∙ c.if-not-is_good_block.true))
