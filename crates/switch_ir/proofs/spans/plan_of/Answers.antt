use Rattle.std.proofs.Common.{◌≡◌, ◌↔◌, ℕ, List, None, Result, Ok, Err, IfOk, sym, subst}
use Rattle.flat_ir.specs.declared.spans.Span.{Span}
use Rattle.flat_ir.specs.Plan.{RegisterPlan, register_of, AreApart, AreBelow, IsGreatestOverlap}
use Rattle.flat_ir.specs.Spans.{spans_of, ValuesDiffer, AreWrittenFirst}
use Rattle.transfer_header.specs.Plans.{IsPlanOf}
use Rattle.transfer_header.proofs.Laws.{plans_of_spans-made}
use Rattle.switch_ir.specs.Passes.{pass_of}
use Rattle.switch_ir.specs.Spans.{written_in, last_read}
use Rattle.switch_ir.proofs.Spanned.{differ, forward}
use Rattle.switch_ir.proofs.spans.plan_of.Goals as goal

pub of-requires-clause-differ : goal.of-requires-clause-differ
of-requires-clause-differ c =
    let pass = pass_of c.args.pass.now in
    subst ValuesDiffer (sym c.in_ok-spans.ensures) (differ (last_read c.args.up.now pass) (written_in c.args.tables.now c.args.handed.now pass) c.requires.stages.apart)

pub of-requires-clause-ordered : goal.of-requires-clause-ordered
of-requires-clause-ordered c =
    let pass = pass_of c.args.pass.now in
    subst AreWrittenFirst (sym c.in_ok-spans.ensures) (forward (last_read c.args.up.now pass) (written_in c.args.tables.now c.args.handed.now pass))

planned : {E : Type 0} (spans : List Span) (r : Result RegisterPlan E)
    → IfOk r (λ plan. (value : ℕ) → (register_of plan value ≡ None) ↔ (spans_of spans value ≡ 0)) → IfOk r (λ plan. AreBelow plan.rows plan.count)
    → IfOk r (λ plan. AreApart spans plan.rows) → IfOk r (λ plan. IsGreatestOverlap spans plan.count) → IfOk r (IsPlanOf spans)
planned spans (Ok plan) registers below apart count = plans_of_spans-made spans plan registers below apart count
planned spans (Err e) registers below apart count = tt

pub returns : goal.returns
returns c =
    subst (λ (spans : List Span). IfOk c.of.result (IsPlanOf spans)) c.in_ok-spans.ensures
    (planned c.in_ok-spans.spans c.of.result c.of.ensures.registers c.of.ensures.below c.of.ensures.apart c.of.ensures.count)
