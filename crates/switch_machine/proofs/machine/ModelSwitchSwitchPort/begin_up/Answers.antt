use Rattle.switch_machine.specs.Staging.{with_call}
use Rattle.switch_machine.specs.Views.{machine_of}
use Rattle.switch_machine.specs.declared.calls.CallKind.TheVariants as kind
use Rattle.switch_machine.proofs.LeftByCalls.{begins_up, counted_of}
use Rattle.switch_machine.proofs.machine.ModelSwitchSwitchPort.begin_up.Goals as goal

pub call-requires-clause-can : goal.call-requires-clause-can
call-requires-clause-can c code is = (c.requires.size, λ whole. c.requires.none)

pub returns-clause-begins : goal.returns-clause-begins
returns-clause-begins c =
    let old = with_call kind.BeginUp (machine_of c.args.self.now) in
    begins_up c.call.result old (machine_of c.call.new.self) c.args.number c.args.port c.args.packet.now c.call.ensures.leaves c.requires.none

pub returns-clause-counted : goal.returns-clause-counted
returns-clause-counted c = counted_of _ _ _ c.call.result kind.BeginUp (machine_of c.args.self.now) (machine_of c.call.new.self) c.call.ensures.leaves
