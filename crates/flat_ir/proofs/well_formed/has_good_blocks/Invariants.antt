use Rattle.std.proofs.Common.{◌≡◌, true}
use Rattle.flat_ir.specs.Program.{program_of}
use Rattle.flat_ir.specs.Tests.{all_below, is_good_block}
use Rattle.flat_ir.proofs.well_formed.has_good_blocks.Given as goal

abbrev pub invariant-loop-place : goal.invariant-loop-place
invariant-loop-place l = all_below l.place (is_good_block (program_of l.f)) ≡ true
