use Rattle.switch_machine.specs.Staging.{with_call}
use Rattle.switch_machine.specs.Views.{machine_of}
use Rattle.switch_machine.specs.declared.calls.CallKind.TheVariants as kind
use Rattle.switch_machine.specs.declared.sides.Side.TheVariants.{Before}
use Rattle.switch_machine.proofs.LeftByCalls.{loaded_with, counted_of, stages_up}
use Rattle.switch_machine.proofs.machine.ModelSwitchSwitchPort.stage_up.Goals as goal

pub call-requires-clause-loaded : goal.call-requires-clause-loaded
call-requires-clause-loaded c = loaded_with Before c.args.self.now.loaded c.args.number c.requires

pub call-requires-clause-can : goal.call-requires-clause-can
call-requires-clause-can c code is = c.requires

pub returns-clause-stages : goal.returns-clause-stages
returns-clause-stages c =
    let old = with_call kind.StageUp (machine_of c.args.self.now) in
    stages_up c.call.result old (machine_of c.call.new.self) c.args.number c.call.ensures.leaves

pub returns-clause-counted : goal.returns-clause-counted
returns-clause-counted c = counted_of _ _ _ c.call.result kind.StageUp (machine_of c.args.self.now) (machine_of c.call.new.self) c.call.ensures.leaves
