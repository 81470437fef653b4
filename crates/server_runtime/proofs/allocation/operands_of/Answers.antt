use Rattle.std.proofs.Common.{◌<◌, ◌++◌, ℕ, List, length, sym, ap, ◌∙◌, subst, arith, IsTrue}
use Rattle.std.specs.List.{AllByRecursion as Each}
use Rattle.flat_ir.specs.declared.program.ValueId.{ValueId}
use Rattle.flat_ir.specs.Program.{is_named, operands, program_of, step_of, Step}
use Rattle.server_runtime.specs.Spans.{numbers_of}
use Rattle.server_runtime.proofs.Steps.{code_length}
use Rattle.flat_ir.proofs.Steps.{step_is}
use Rattle.server_runtime.proofs.allocation.operands_of.Goals as goal

pub push_operands-requires-clause-named : goal.push_operands-requires-clause-named
push_operands-requires-clause-named c =
    let flat = c.args.whole.now.flat in
    let f = program_of flat in
    let i = c.args.i in
    let is = step_is flat i c.index-as_slice-i.result c.as_slice.result.now c.as_slice.ensures c.requires.within c.index-as_slice-i.is in
    let lt : i < length f.code = omega (arith, c.requires.within, code_length flat) in
    subst (λ (s : Step). Each (λ (v : ValueId). IsTrue (is_named f v)) (operands s.work)) (sym is) (c.requires.prepared.bounded.formed.names i lt)

pub returns : goal.returns
returns c =
    let flat = c.args.whole.now.flat in
    let f = program_of flat in
    let i = c.args.i in
    let is = step_is flat i c.index-as_slice-i.result c.as_slice.result.now c.as_slice.ensures c.requires.within c.index-as_slice-i.is in
    c.in_ok-push_operands.ensures ∙ ap (λ (l : List ℕ). l ++ numbers_of f (operands (step_of c.index-as_slice-i.result).work)) c.new-numbers.ensures.items
    ∙ ap (λ (s : Step). numbers_of f (operands s.work)) is
