use Rattle.std.proofs.Common.{◌≡◌, arith, false}
use Rattle.flat_ir.specs.declared.program.ValueId.{ValueId}
use Rattle.flat_ir.specs.Program.{operands, work_of}
use Rattle.transfer_header.specs.Steps.{is_among}
use Rattle.switch_machine.proofs.WrittenPlaces.{read_all, read_more}
use Rattle.switch_machine.proofs.written.Written.is_read_by.Goals as goal

pub loop-place-preserved : goal.loop-place-preserved
loop-place-preserved c = λ places marks.
    read_more (λ (v : ValueId). is_among v.instruction places ≡ false) (operands (work_of c.args.kind.now)) c.loop-place.place c.operand.result
    (c.loop-place.invariant places marks) c.operand.ensures (c.has.ensures c.if-has.false places marks)

pub returns : goal.returns
returns c = λ none places marks.
    read_all (λ (v : ValueId). is_among v.instruction places ≡ false) (operands (work_of c.args.kind.now))
    (λ k u lt is. c.loop-place.invariant places marks k u (omega (arith, lt, c.loop-place-test.false, c.operand_count-place-end.ensures)) is)
