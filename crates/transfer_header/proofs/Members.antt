-- Numbers and spans that stand in a list.
use Rattle.std.proofs.Common.{◌≡◌, ℕ, suc, ◌<◌, Bool, true, cond, List, [], ◌∷◌, refl, ap, inl, inr, arith}
use Rattle.std.specs.Prelude.{◌==◌, Contains, slice_index_or}
use Rattle.std.proofs.lemmas.Bool.{cases_eq, eq-eqb, ne_eqb, or_left, or_right}
use Rattle.std.proofs.lemmas.List.Sums.{sum_by-cons, get_or-le-sum_by}
use Rattle.flat_ir.specs.declared.spans.Span.{Span}
use Rattle.flat_ir.specs.Spans.{spans_of}
use Rattle.transfer_header.specs.Steps.{is_among}

pub at_front : (x : ℕ) (xs : List ℕ) → is_among x (x ∷ xs) ≡ true
at_front x xs = or_left (x == x) (is_among x xs) (eq-eqb x x refl)

pub behind : (x y : ℕ) (xs : List ℕ) → is_among y xs ≡ true → is_among y (x ∷ xs) ≡ true
behind x y xs there = or_right (x == y) (is_among y xs) there

-- the span of a value
pub record HasSpan (spans : List Span) (value : ℕ) : Type 0 where
  pub span : Span
  pub there : Contains spans span
  pub same : span.value ≡ value

one_if : Bool → ℕ
one_if b = cond b 1 0

later_span : (first : Span) (spans : List Span) (value : ℕ) → HasSpan spans value → HasSpan (first ∷ spans) value
later_span first spans value h = record { span = h.span; there = (suc h.there.0, omega (arith, h.there.1), h.there.2); same = h.same }

pub has_span : (spans : List Span) (value : ℕ) → 0 < spans_of spans value → HasSpan spans value
unfolding one_if
has_span [] value some = absurd (omega (arith, some))
has_span (first ∷ spans) value some = elim (cases_eq first.value value) [
  | inl same ↦ record { span = first; there = (0, omega arith, refl); same = same }
  | inr other ↦ later_span first spans value (has_span spans value (omega (
    arith,
    some,
    sum_by-cons (λ (s : Span). one_if (s.value == value)) first spans,
    ap one_if (ne_eqb first.value value other),
  )))
]

-- a span that is there is counted
pub is_counted : (spans : List Span) (span : Span) → Contains spans span → 0 < spans_of spans span.value
unfolding one_if
is_counted spans span there =
    let here = slice_index_or spans there.0 span in
    omega (
      arith,
      get_or-le-sum_by (λ (s : Span). one_if (s.value == span.value)) spans there.0 span there.1,
      ap one_if (eq-eqb here.value span.value (ap (λ (s : Span). s.value) there.2)),
    )
