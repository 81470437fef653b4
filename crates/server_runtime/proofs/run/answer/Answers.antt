use Rattle.std.proofs.Common.{subst}
use Rattle.flat_ir.specs.Program.{program_of}
use Rattle.split_model.specs.Layouts.{up_layout}
use Rattle.transfer_header.specs.Told.{number_in, packet_in, reads_in}
use Rattle.server_runtime.specs.Plans.{ServerPlan}
use Rattle.server_runtime.specs.StepsTaken.{IsOutcome}
use Rattle.server_runtime.proofs.Outcomes.{outcome_read, part_is}
use Rattle.server_runtime.proofs.run.answer.Goals as goal

pub returns-clause-ok : goal.returns-clause-ok
returns-clause-ok c =
    let frame = c.args.frame.now in
    let whole = c.plan.inside.whole in
    subst
    (λ (p : ServerPlan). IsOutcome p.program p.split c.args.store.now (number_in frame) (packet_in (up_layout p.program p.split) frame) (reads_in (up_layout p.program p.split) frame) c.run.new.store c.run.result)
    c.plan.view_is
    (outcome_read (program_of whole.flat) whole.split c.args.store.now c.run.new.store frame c.read.new.values _ c.in_ok-head.head c.run.result c.in_ok-head.ensures.ok (part_is frame c.in_ok-head.head.packet_at) c.run.ensures.outcome)
