use Rattle.std.proofs.Common.{◌∙◌, Ok, Err, Option, ap, refl, subst, sym}
use Rattle.switch_ir.specs.Code.{code_of}
use Rattle.switch_ir.specs.declared.port.PortError.TheVariants.{Failed, NoMemory}
use Rattle.switch_machine.specs.declared.calls.CallKind.{CallKind}
use Rattle.switch_machine.specs.declared.loaded.Loaded.{Loaded}
use Rattle.switch_machine.specs.Loading.{code_in}
use Rattle.switch_machine.specs.Machine.{fails_next, MachineState}
use Rattle.switch_machine.specs.Sides.{of_side, side_of}
use Rattle.switch_machine.specs.Staging.{passes_at, with_call, CanTake}
use Rattle.switch_machine.specs.UnderWay.{under_way}
use Rattle.switch_machine.specs.Views.{machine_of}
use Rattle.switch_machine.proofs.LoadedCode.{at_side}
use Rattle.switch_machine.proofs.LeftByCalls.{leaves_by, leaves_error, none_noted, stays_safe, without_memory}
use Rattle.switch_machine.proofs.machine.ModelSwitch.call.Goals as goal

-- ## One that fails

pub returns-in_err-failed-clause-leaves : goal.returns-in_err-failed-clause-leaves
returns-in_err-failed-clause-leaves c =
    let one = machine_of c.is_to_fail.new.self in
    let counted = c.is_to_fail.ensures.counted ∙ ap (λ (k : CallKind). with_call k (machine_of c.args.self.now)) c.kind.ensures in
    rw (without_memory c.from_residual.result c.from_residual.ensures.1)
    (leaves_error c.args.event.now NoMemory _ one (record one { journal = c.note_end.new.journal }) counted c.note_end.new.journal one.faults c.requires.loaded refl
    (none_noted one.journal c.note_end.new.journal c.in_err-failed.ensures.err) refl)

pub returns-in_err-failed-clause-plan : goal.returns-in_err-failed-clause-plan
returns-in_err-failed-clause-plan c = rw (without_memory c.from_residual.result c.from_residual.ensures.1) tt

pub returns-then-is_to_fail-clause-leaves : goal.returns-then-is_to_fail-clause-leaves
returns-then-is_to_fail-clause-leaves c =
    let one = machine_of c.is_to_fail.new.self in
    let counted = c.is_to_fail.ensures.counted ∙ ap (λ (k : CallKind). with_call k (machine_of c.args.self.now)) c.kind.ensures in
    rw c.in_ok-failed.ensures.end
    (leaves_error c.args.event.now Failed _ one _ counted c.note_end.new.journal _ c.requires.loaded c.count_fault.ensures.counted c.in_ok-failed.ensures.noted
    c.count_fault.ensures.rises)

pub returns-then-is_to_fail-clause-side : goal.returns-then-is_to_fail-clause-side
returns-then-is_to_fail-clause-side c = rw c.in_ok-failed.ensures.end tt

pub returns-then-is_to_fail-clause-plan : goal.returns-then-is_to_fail-clause-plan
returns-then-is_to_fail-clause-plan c =
    rw c.in_ok-failed.ensures.end
    (ap (fails_next (machine_of c.args.self.now)) (sym c.kind.ensures) ∙ sym c.is_to_fail.ensures.told ∙ c.if-is_to_fail.true)

-- ## One that doesn't

pub take-requires-clause-can : goal.take-requires-clause-can
take-requires-clause-can c =
    let m = machine_of c.args.self.now in
    let side = side_of c.args.event.now in
    let l = c.in-Some.loaded in
    let counted = c.is_to_fail.ensures.counted in
    let passes = sym (ap (passes_at side) counted) ∙ ap (λ (o : Option Loaded). of_side side (under_way o).pre (under_way o).post) c.in-Some.is ∙ at_side side l in
    subst (CanTake c.args.event.now (code_of l.code)) passes
    (c.requires.can (code_of l.code) (sym (ap (λ (s : MachineState). s.code) counted) ∙ ap code_in c.in-Some.is))

pub returns-in_err-end-clause-leaves : goal.returns-in_err-end-clause-leaves
returns-in_err-end-clause-leaves c =
    let one = machine_of c.is_to_fail.new.self in
    let counted = c.is_to_fail.ensures.counted ∙ ap (λ (k : CallKind). with_call k (machine_of c.args.self.now)) c.kind.ensures in
    rw (without_memory c.from_residual-in_err-end.result c.from_residual-in_err-end.ensures.1)
    (leaves_by c.args.event.now (Err NoMemory) _ one counted c.in-Some.loaded c.take.new.self c.take.new.journal (ap code_in c.in-Some.is)
    (ap under_way c.in-Some.is) c.take.ensures.stays c.in_err-end.ensures.kept (none_noted one.journal c.take.new.journal c.in_err-end.ensures.err) refl)

pub returns-in_err-end-clause-plan : goal.returns-in_err-end-clause-plan
returns-in_err-end-clause-plan c = rw (without_memory c.from_residual-in_err-end.result c.from_residual-in_err-end.ensures.1) tt

pub returns-clause-leaves : goal.returns-clause-leaves
returns-clause-leaves c =
    let one = machine_of c.is_to_fail.new.self in
    let counted = c.is_to_fail.ensures.counted ∙ ap (λ (k : CallKind). with_call k (machine_of c.args.self.now)) c.kind.ensures in
    leaves_by c.args.event.now (Ok c.in_ok-end.end) _ one counted c.in-Some.loaded c.take.new.self c.take.new.journal (ap code_in c.in-Some.is)
    (ap under_way c.in-Some.is) c.take.ensures.stays c.in_ok-end.ensures.takes c.in_ok-end.ensures.noted refl

pub returns-clause-plan : goal.returns-clause-plan
returns-clause-plan c =
    let plan = fails_next (machine_of c.args.self.now) in
    ap plan (sym c.kind.ensures) ∙ sym c.is_to_fail.ensures.told ∙ c.if-is_to_fail.false

pub invariant_of-self-2 : goal.invariant_of-self-2
invariant_of-self-2 c =
    let m = c.is_to_fail.new.self in
    record { safe = stays_safe m.loaded c.in-Some.loaded c.take.new.self m.tables c.in-Some.is c.take.ensures.stays.code m.safe }
