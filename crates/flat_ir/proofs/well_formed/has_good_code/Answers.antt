use Rattle.std.proofs.Common.{length, sym, arith, ◌∙◌}
use Rattle.flat_ir.specs.Program.{program_of}
use Rattle.flat_ir.specs.Tests.{is_good_instr}
use Rattle.flat_ir.proofs.Fails.{not_below}
use Rattle.flat_ir.proofs.well_formed.has_good_code.Goals as goal

pub returns-then-not-is_good_instr : goal.returns-then-not-is_good_instr
returns-then-not-is_good_instr c =
    sym (not_below (length c.args.f.now.code) (is_good_instr (program_of c.args.f.now)) c.loop-i.i (omega (arith, c.loop-i-test.true, c.len-i-end.ensures)) (sym c.is_good_instr.ensures ∙ c.if-not-is_good_instr.true))
