use Rattle.std.proofs.Common.{◌≡◌, ◌∙◌, ◌++◌, inl, inr, ap, sym}
use Rattle.flat_ir.specs.declared.program.InstrKind.{InstrKind}
use Rattle.flat_ir.specs.Program.{work_of, operands}
use Rattle.switch_ir.proofs.NotedSteps.{raises_both, raises_same}
use Rattle.switch_ir.proofs.last_reads.LastReads.note_operands.Goals as goal

pub returns-in-Apply : goal.returns-in-Apply
returns-in-Apply c = raises_same c.args.step _ _ _ _ (c.deref.ensures.value ∙ sym (ap (λ (k : InstrKind). operands (work_of k)) c.in-Apply.is)) c.note_all.ensures

pub returns-in-Shift : goal.returns-in-Shift
returns-in-Shift c = raises_same c.args.step _ _ _ _ (sym (ap (λ (k : InstrKind). operands (work_of k)) c.in-Shift.is)) c.note_all-in-Shift.ensures

pub returns-in-Select : goal.returns-in-Select
returns-in-Select c = raises_same c.args.step _ _ _ _ (sym (ap (λ (k : InstrKind). operands (work_of k)) c.in-Select.is)) c.note_all-in-Select.ensures

pub returns-in-Byte : goal.returns-in-Byte
returns-in-Byte c = raises_same c.args.step _ _ _ _ (sym (ap (λ (k : InstrKind). operands (work_of k)) c.in-Byte.is)) c.note_all-in-Byte.ensures

pub returns-in-Put : goal.returns-in-Put
returns-in-Put c =
    let keys = c.deref-in-Put.result.now in
    let values = c.deref-in-Put-2.result.now in
    let all : keys ++ values ≡ operands (work_of c.args.kind.now) =
    (ap (λ l. l ++ values) c.deref-in-Put.ensures.value ∙ ap (λ l. c.in-Put.keys.items ++ l) c.deref-in-Put-2.ensures.value
    ∙ sym (ap (λ (k : InstrKind). operands (work_of k)) c.in-Put.is)) in
    raises_same c.args.step _ _ _ _ all (raises_both c.args.step keys values _ _ _ c.note_all-in-Put.ensures c.note_all-in-Put-2.ensures)

pub returns-in-Look : goal.returns-in-Look
returns-in-Look c =
    let all : c.deref-in-Look.result.now ≡ operands (work_of c.args.kind.now) =
    c.deref-in-Look.ensures.value ∙ elim c.in-Look.is [
      | inl look ↦ sym (ap (λ (k : InstrKind). operands (work_of k)) look.1)
      | inr del ↦ sym (ap (λ (k : InstrKind). operands (work_of k)) del.1)
    ] in
    raises_same c.args.step _ _ _ _ all c.note_all-in-Look.ensures
