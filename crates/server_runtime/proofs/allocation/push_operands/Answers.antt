use Rattle.std.proofs.Common.{sym, subst, IsTrue}
use Rattle.std.specs.List.{AllByRecursion as Each}
use Rattle.flat_ir.specs.declared.program.InstrKind.{InstrKind}
use Rattle.flat_ir.specs.declared.program.ValueId.{ValueId}
use Rattle.flat_ir.specs.Program.{is_named, operands, program_of, work_of}
use Rattle.server_runtime.proofs.Alike.{each_left, each_right}
use Rattle.server_runtime.proofs.allocation.push_operands.Goals as goal

pub push_numbers-requires-in-Put-clause-named : goal.push_numbers-requires-in-Put-clause-named
push_numbers-requires-in-Put-clause-named c =
    let P = λ (v : ValueId). IsTrue (is_named (program_of c.args.whole.now.flat) v) in
    subst (Each P) (sym c.deref-in-Put.ensures.value)
    (each_left P c.in-Put.keys.items c.in-Put.values.items (subst (λ (k : InstrKind). Each P (operands (work_of k))) c.in-Put.is c.requires.named))

pub push_numbers-requires-in-Put-2-clause-named : goal.push_numbers-requires-in-Put-2-clause-named
push_numbers-requires-in-Put-2-clause-named c =
    let P = λ (v : ValueId). IsTrue (is_named (program_of c.args.whole.now.flat) v) in
    subst (Each P) (sym c.deref-in-Put-2.ensures.value)
    (each_right P c.in-Put.keys.items c.in-Put.values.items (subst (λ (k : InstrKind). Each P (operands (work_of k))) c.in-Put.is c.requires.named))
