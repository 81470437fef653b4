use Rattle.switch_machine.specs.declared.sides.Side.TheVariants.{Behind}
use Rattle.switch_machine.proofs.LeftByCalls.{loaded_with, counted_down, planned_down, stages_down}
use Rattle.switch_machine.specs.Staging.{with_call}
use Rattle.switch_machine.specs.Views.{machine_of}
use Rattle.switch_machine.specs.declared.calls.CallKind.TheVariants as kind
use Rattle.switch_machine.proofs.machine.ModelSwitchSwitchPort.stage_down.Goals as goal

pub call-requires-clause-loaded : goal.call-requires-clause-loaded
call-requires-clause-loaded c = loaded_with Behind c.args.self.now.loaded c.args.number c.requires

pub call-requires-clause-can : goal.call-requires-clause-can
call-requires-clause-can c code is = c.requires

pub returns-clause-stages : goal.returns-clause-stages
returns-clause-stages c =
    let old = with_call kind.StageDown (machine_of c.args.self.now) in
    stages_down c.call.result c.down_end.result c.down_end.ensures c.call.ensures.side old (machine_of c.call.new.self) c.args.number c.call.ensures.leaves

pub returns-clause-plan : goal.returns-clause-plan
returns-clause-plan c = planned_down c.call.result c.down_end.result c.down_end.ensures c.call.ensures.side _ c.call.ensures.plan

pub returns-clause-counted : goal.returns-clause-counted
returns-clause-counted c = counted_down c.call.result c.down_end.result c.down_end.ensures c.call.ensures.side _ _ _ _ _ c.call.ensures.leaves
