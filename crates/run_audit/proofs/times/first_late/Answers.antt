use Rattle.std.proofs.Common.{◌∙◌, ap}
use Rattle.run_audit.specs.Walk.{late_in}
use Rattle.run_audit.proofs.Walks.{late_answer}
use Rattle.run_audit.proofs.times.first_late.Goals as goal

pub returns : goal.returns
returns c =
    late_answer c.args.run.now c.late_in_order.result
    (c.late_in_order.ensures ∙ ap (λ f. late_in f c.as_slice-2.result.now) c.as_slice.ensures
    ∙ ap (late_in c.args.run.now.fates) c.as_slice-2.ensures)
