use Rattle.std.proofs.Common.{◌≡◌, ℕ, suc, List, length, sym, ◌∙◌, subst, arith, add-one}
use Rattle.std.specs.List.{AllByRecursion as Each}
use Rattle.flat_ir.specs.Program.{program_of}
use Rattle.server_runtime.specs.declared.plan.PlannedStep.{PlannedStep}
use Rattle.server_runtime.specs.Resolved.{instructions_of, IsResolved}
use Rattle.server_runtime.specs.Walks.{is_due, AreListed}
use Rattle.server_runtime.proofs.ByPlaces.{more_turns}
use Rattle.server_runtime.proofs.Steps.{code_length}
use Rattle.server_runtime.proofs.Walked.{listed_less}
use Rattle.server_runtime.proofs.allocation.planned_steps.Goals as goal
use Rattle.server_runtime.proofs.allocation.planned_steps.Goals.{then-is_due+in_ok-planned_step+in_ok-push, else-is_due}

pub loop-i-preserved : goal.loop-i-preserved
loop-i-preserved c =
    let f = program_of c.args.whole.now.flat in
    let test = is_due f c.args.whole.now.split in
    let values = c.args.values.now in
    let i = c.loop-i.i in
    let steps = c.loop-i.steps.items in
    let after = c.if-is_due.steps.items in
    let so = c.loop-i.invariant in
    elim c.if-is_due.branch [
      | then-is_due+in_ok-planned_step+in_ok-push w ↦
          let more = more_turns test f values i steps after w.in_ok-planned_step.field-0 ((λ p. (w.steps-is p).items) ∙ w.in_ok-push.ensures.items)
          w.in_ok-planned_step.ensures.instruction (sym c.is_due.ensures ∙ w.if-is_due.true) w.in_ok-planned_step.ensures.resolved (so.steps, so.resolved) in
          record { steps = subst (λ (k : ℕ). AreListed test 0 k (instructions_of after)) (sym (add-one i)) more.0; resolved = more.1 }
      | else-is_due w ↦
          record {
            steps = subst (λ (k : ℕ). AreListed test 0 k (instructions_of after)) (sym (add-one i))
                (subst (λ (ts : List PlannedStep). AreListed test 0 (suc i) (instructions_of ts)) (sym (λ p. (w.steps-is p).items))
                (listed_less test 0 i (instructions_of steps) so.steps (sym c.is_due.ensures ∙ w.if-is_due.false)));
            resolved = subst (λ (ts : List PlannedStep). Each (IsResolved f values) ts) (sym (λ p. (w.steps-is p).items)) so.resolved;
          }
    ]

pub returns-clause-steps : goal.returns-clause-steps
returns-clause-steps c =
    let flat = c.args.whole.now.flat in
    let f = program_of flat in
    let end : c.loop-i.i ≡ length f.code = omega (arith, c.loop-i.auto.i-end, c.loop-i-test.false, c.len-i-end.ensures, code_length flat) in
    subst (λ (k : ℕ). AreListed (is_due f c.args.whole.now.split) 0 k (instructions_of c.loop-i.steps.items)) end c.loop-i.invariant.steps
