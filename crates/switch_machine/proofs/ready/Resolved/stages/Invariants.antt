use Rattle.std.proofs.Common.{◌≡◌, map, take}
use Rattle.switch_ir.specs.Code.{pass_step_of}
use Rattle.switch_machine.specs.Ready.{ready_of, resolved}
use Rattle.switch_machine.proofs.ready.Resolved.stages.Given as goal

abbrev pub invariant-loop-steps : goal.invariant-loop-steps
invariant-loop-steps l =
    map (map ready_of) l.items.items
    ≡ map (λ own. map (resolved l.self.numbering.now l.self.plan.now) (map pass_step_of own)) (take l.steps-index l.stages)
