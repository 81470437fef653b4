use Rattle.std.proofs.Common.{◌≡◌, ◌↔◌, ℕ, List, length, None, sym, ap, subst, arith, add-one}
use Rattle.flat_ir.specs.declared.spans.Span.{Span}
use Rattle.flat_ir.specs.Plan.{register_of, AreApart}
use Rattle.flat_ir.specs.Program.{program_of}
use Rattle.flat_ir.specs.Spans.{spans_of, AreWrittenFirst, ValuesDiffer}
use Rattle.server_runtime.specs.Spans.{server_spans, spans_below}
use Rattle.server_runtime.specs.Walks.{AreLastReads}
use Rattle.server_runtime.proofs.Few.{spans_few}
use Rattle.server_runtime.proofs.Laws.{a_server_run_goes_by_steps-differ, a_server_run_goes_by_steps-ordered}
use Rattle.transfer_header.proofs.Laws.{a_plan_keeps_apart}
use Rattle.server_runtime.proofs.allocation.allocate.Goals as goal

pub of-requires-clause-few_spans : goal.of-requires-clause-few_spans
of-requires-clause-few_spans c =
    let f = program_of c.args.whole.now.flat in
    let split = c.args.whole.now.split in
    omega (
      arith,
      ap (λ (l : List Span). length l) c.in_ok-spans.ensures,
      ap (λ (k : ℕ). length (spans_below f split k)) (add-one (length f.code)),
      spans_few f split (length f.code),
      c.requires.values,
    )

pub of-requires-clause-differ : goal.of-requires-clause-differ
of-requires-clause-differ c =
    let f = program_of c.args.whole.now.flat in
    subst ValuesDiffer (sym c.in_ok-spans.ensures) (a_server_run_goes_by_steps-differ f c.args.whole.now.split c.requires.bounded.formed)

pub of-requires-clause-ordered : goal.of-requires-clause-ordered
of-requires-clause-ordered c =
    subst AreWrittenFirst (sym c.in_ok-spans.ensures) (a_server_run_goes_by_steps-ordered (program_of c.args.whole.now.flat) c.args.whole.now.split)

pub returns-clause-serving : goal.returns-clause-serving
returns-clause-serving c =
    let f = program_of c.args.whole.now.flat in
    let split = c.args.whole.now.split in
    let plan = c.in_ok-plan.plan in
    let is = c.in_ok-spans.ensures in
    record {
      apart = a_plan_keeps_apart (server_spans f split) plan c.in_ok-values.values
          (subst (λ (spans : List Span). (value : ℕ) → (register_of plan value ≡ None) ↔ (spans_of spans value ≡ 0)) is c.in_ok-plan.ensures.registers)
          (subst (λ (spans : List Span). AreApart spans plan.rows) is c.in_ok-plan.ensures.apart) c.in_ok-values.ensures.plan;
      placed = c.in_ok-values.ensures.placed;
    }

pub returns-clause-resolved : goal.returns-clause-resolved
returns-clause-resolved c = record { seats = c.in_ok-seats.ensures; steps = c.in_ok-steps.ensures.resolved }

pub spans_of-requires-clause-last : goal.spans_of-requires-clause-last
spans_of-requires-clause-last c =
    subst (AreLastReads (program_of c.args.whole.now.flat) c.args.whole.now.split) (sym c.deref.ensures.value) c.in_ok-last.ensures
