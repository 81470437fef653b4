use Rattle.std.proofs.Common.{arith, ◌∙◌}
use Rattle.std.proofs.lemmas.Grind.{get_or_default_zero}
use Rattle.flat_ir.specs.Program.{program_of}
use Rattle.server_runtime.proofs.Numbers.{below_all, named_parts}
use Rattle.server_runtime.proofs.plan.PreparedProgram.number_of.Goals as goal

pub overflow_add-result : goal.overflow_add-result
overflow_add-result c =
    let f = program_of c.args.self.now.flat in
    let v = c.args.value in
    let parts = named_parts f v c.requires.named in
    let firsts = c.requires.prepared.firsts in
    let first = c.index.ensures ∙ get_or_default_zero c.args.self.now.firsts.items v.instruction c.index.result.now (omega (arith, parts.0, firsts.count)) ∙ firsts.each v.instruction (omega (arith, parts.0)) in
    omega (arith, first, parts.1, below_all f v.instruction parts.0, c.requires.prepared.values)
