use Rattle.std.proofs.Common.{◌≡◌, None}
use Rattle.transfer_header.specs.Frames.{IsFrame}
use Rattle.switch_ir.specs.Port.{OfItsParts}
use Rattle.switch_machine.proofs.LoadedCode.{if_some}
use Rattle.switch_machine.proofs.LeftByCalls.{counted_down, planned_down, begins_down}
use Rattle.switch_machine.specs.Staging.{with_call}
use Rattle.switch_machine.specs.Views.{machine_of}
use Rattle.switch_machine.specs.declared.calls.CallKind.TheVariants as kind
use Rattle.switch_machine.proofs.machine.ModelSwitchSwitchPort.begin_down.Goals as goal

pub call-requires-clause-can : goal.call-requires-clause-can
call-requires-clause-can c code is = (
  if_some (machine_of c.args.self.now).code code (λ x. IsFrame 2 x.down c.args.frame.now) c.requires.frame is,
  λ whole. if_some (machine_of c.args.self.now).code code (λ x. OfItsParts x c.args.frame.now (λ n q vs. (machine_of c.args.self.now).passes.post n ≡ None)) c.requires.none is,
)

pub returns-clause-begins : goal.returns-clause-begins
returns-clause-begins c =
    let old = with_call kind.BeginDown (machine_of c.args.self.now) in
    begins_down c.call.result c.down_end.result c.down_end.ensures c.call.ensures.side old (machine_of c.call.new.self) c.args.frame.now c.requires.frame c.call.ensures.leaves
    c.requires.none

pub returns-clause-plan : goal.returns-clause-plan
returns-clause-plan c = planned_down c.call.result c.down_end.result c.down_end.ensures c.call.ensures.side _ c.call.ensures.plan

pub returns-clause-counted : goal.returns-clause-counted
returns-clause-counted c = counted_down c.call.result c.down_end.result c.down_end.ensures c.call.ensures.side _ _ _ _ _ c.call.ensures.leaves
