use Rattle.std.proofs.Common.{◌-◌, ◌^◌, arith}
use Rattle.flat_ir.specs.Program.{work_of, operands}
use Rattle.dependence.proofs.Deep.{deepest_low}
use Rattle.dependence.proofs.depth.depth_of.Goals as goal

pub overflow_add-result : goal.overflow_add-result
overflow_add-result c =
    let low = deepest_low c.args.members.now c.args.depths.now (2 ^ 32 - 2) (operands (work_of c.args.one.now.kind)) (λ j. let h = c.requires j in omega arith) in
    let found = c.deepest_operand.ensures in
    omega arith
