-- Plans that were made of spans.
use Rattle.std.specs.Prelude.{◌≡◌, ◌↔◌, ℕ, ◌≤◌, List, None}
use Rattle.std.specs.Coded.{Coded-set, coded_ℕ, coded_option, le_prop}
use Rattle.flat_ir.specs.declared.spans.Span.{Span}
use Rattle.flat_ir.specs.Plan.{RegisterPlan, register_of, AreBelow, AreApart}
use Rattle.flat_ir.specs.Spans.{overlap, spans_of}
use Rattle.lemmas.proofs.Tests.{never_prop}

-- Whatever has a span has a register, and nothing else has; values that are needed at one step have two; and there are
-- no more registers than the greatest number of spans that cover one step.
pub record IsPlanOf (spans : List Span) (plan : RegisterPlan) : Type 0 where
  pub registers : (value : ℕ) → (register_of plan value ≡ None) ↔ (spans_of spans value ≡ 0)
  pub below : AreBelow plan.rows plan.count
  pub apart : AreApart spans plan.rows
  pub enough : (step : ℕ) → overlap spans step ≤ plan.count
  pub fewest : (count : ℕ) → ((step : ℕ) → overlap spans step ≤ count) → plan.count ≤ count

pub plan_prop : (spans : List Span) (plan : RegisterPlan) → IsProp (IsPlanOf spans plan)
plan_prop spans plan a b = λ i. record {
  registers = λ value. (
    λ none. Coded-set coded_ℕ _ _ ((a.registers value).0 none) ((b.registers value).0 none) i,
    λ free. Coded-set (coded_option coded_ℕ) _ _ ((a.registers value).1 free) ((b.registers value).1 free) i,
  );
  below = λ value register is. le_prop (a.below value register is) (b.below value register is) i;
  apart = λ one other step there here differ covers covers' same. never_prop (a.apart one other step there here differ covers covers' same) (b.apart one other step there here differ covers covers' same) i;
  enough = λ step. le_prop (a.enough step) (b.enough step) i;
  fewest = λ count bound. le_prop (a.fewest count bound) (b.fewest count bound) i;
}
