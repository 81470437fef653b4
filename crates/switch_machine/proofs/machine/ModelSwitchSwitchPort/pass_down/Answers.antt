use Rattle.std.proofs.lemmas.Bool.{true≢false}
use Rattle.transfer_header.specs.Frames.{IsFrame}
use Rattle.switch_machine.proofs.LoadedCode.{if_some}
use Rattle.switch_machine.proofs.LeftByCalls.{counted_down, planned_down, passes_down}
use Rattle.switch_machine.specs.Staging.{with_call}
use Rattle.switch_machine.specs.Views.{machine_of}
use Rattle.switch_machine.specs.declared.calls.CallKind.TheVariants as kind
use Rattle.switch_machine.proofs.machine.ModelSwitchSwitchPort.pass_down.Goals as goal

pub call-requires-clause-can : goal.call-requires-clause-can
call-requires-clause-can c code is = (if_some (machine_of c.args.self.now).code code (λ x. IsFrame 2 x.down c.args.frame.now) c.requires.frame is, λ whole. absurd (true≢false whole))

pub returns-clause-passes : goal.returns-clause-passes
returns-clause-passes c =
    let old = with_call kind.Down (machine_of c.args.self.now) in
    passes_down c.call.result c.down_end.result c.down_end.ensures c.call.ensures.side old (machine_of c.call.new.self) c.args.frame.now c.requires.frame c.call.ensures.leaves

pub returns-clause-plan : goal.returns-clause-plan
returns-clause-plan c = planned_down c.call.result c.down_end.result c.down_end.ensures c.call.ensures.side _ c.call.ensures.plan

pub returns-clause-counted : goal.returns-clause-counted
returns-clause-counted c = counted_down c.call.result c.down_end.result c.down_end.ensures c.call.ensures.side _ _ _ _ _ c.call.ensures.leaves
