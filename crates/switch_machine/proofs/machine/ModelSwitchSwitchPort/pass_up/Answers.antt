use Rattle.std.proofs.lemmas.Bool.{true≢false}
use Rattle.switch_machine.specs.Staging.{with_call}
use Rattle.switch_machine.specs.Views.{machine_of}
use Rattle.switch_machine.specs.declared.calls.CallKind.TheVariants as kind
use Rattle.switch_machine.proofs.LeftByCalls.{counted_of, passes_up}
use Rattle.switch_machine.proofs.machine.ModelSwitchSwitchPort.pass_up.Goals as goal

pub call-requires-clause-can : goal.call-requires-clause-can
call-requires-clause-can c code is = (c.requires.size, λ whole. absurd (true≢false whole))

pub returns-clause-passes : goal.returns-clause-passes
returns-clause-passes c =
    let old = with_call kind.Up (machine_of c.args.self.now) in
    passes_up c.call.result old (machine_of c.call.new.self) c.args.number c.args.port c.args.packet.now c.call.ensures.leaves

pub returns-clause-counted : goal.returns-clause-counted
returns-clause-counted c = counted_of _ _ _ c.call.result kind.Up (machine_of c.args.self.now) (machine_of c.call.new.self) c.call.ensures.leaves
