use Rattle.std.proofs.Common.{◌≡◌, true}
use Rattle.flat_ir.specs.Program.{program_of}
use Rattle.flat_ir.specs.Tests.{all_below, is_good_instr}
use Rattle.flat_ir.proofs.well_formed.has_good_code.Given as goal

abbrev pub invariant-loop-i : goal.invariant-loop-i
invariant-loop-i l = all_below l.i (is_good_instr (program_of l.f)) ≡ true
