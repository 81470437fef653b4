use Rattle.std.proofs.Common.{◌+◌, arith, ◌∙◌}
use Rattle.std.proofs.lemmas.Grind.{get_or_default_zero}
use Rattle.flat_ir.specs.Program.{program_of}
use Rattle.server_runtime.proofs.Numbers.{number_of_named, number_of_none}
use Rattle.server_runtime.proofs.Steps.{code_length}
use Rattle.server_runtime.proofs.plan.PreparedProgram.number.Goals as goal

pub returns-then-value-index : goal.returns-then-value-index
returns-then-value-index c =
    let f = program_of c.args.self.now.flat in
    let items = c.args.self.now.firsts.items in
    let i = c.args.value.instruction in
    let count = code_length c.args.self.now.flat in
    number_of_named f c.args.value c.index-first.result.now c.index.result.now (omega (arith, c.if-instruction-len.false, c.len.ensures, count))
    (c.index-first.ensures ∙ get_or_default_zero items i c.index-first.result.now (omega (arith, c.if-instruction-len.false, c.len.ensures, count, c.requires.count)) ∙ c.requires.each i (omega (arith, c.if-instruction-len.false, c.len.ensures, count)))
    (c.index.ensures ∙ get_or_default_zero items (i + 1) c.index.result.now (omega (arith, c.if-instruction-len.false, c.len.ensures, count, c.requires.count)) ∙ c.requires.each (i + 1) (omega (arith, c.if-instruction-len.false, c.len.ensures, count)))
    c.if-value-index.true

pub returns-else-value-index : goal.returns-else-value-index
returns-else-value-index c =
    let f = program_of c.args.self.now.flat in
    let items = c.args.self.now.firsts.items in
    let i = c.args.value.instruction in
    let count = code_length c.args.self.now.flat in
    number_of_none f c.args.value c.index-first.result.now c.index.result.now
    (c.index-first.ensures ∙ get_or_default_zero items i c.index-first.result.now (omega (arith, c.if-instruction-len.false, c.len.ensures, count, c.requires.count)) ∙ c.requires.each i (omega (arith, c.if-instruction-len.false, c.len.ensures, count)))
    (c.index.ensures ∙ get_or_default_zero items (i + 1) c.index.result.now (omega (arith, c.if-instruction-len.false, c.len.ensures, count, c.requires.count)) ∙ c.requires.each (i + 1) (omega (arith, c.if-instruction-len.false, c.len.ensures, count)))
    c.if-value-index.false
