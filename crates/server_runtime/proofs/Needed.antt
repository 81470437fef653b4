-- Which values need registers at the same time.
use Rattle.std.proofs.Common.{◌≡◌, ◌<◌, ◌≤◌, ◌==◌, ◌&&◌, ℕ, suc, Bool, true, false, cond, max, List, [], ◌∷◌, get_or, map, length, replicate, Option, IsSome, is_some, not, refl, sym, ap, ◌∙◌, subst, arith, inl, inr, true≢false}
use Rattle.std.specs.Prelude.{nat_le, All}
use Rattle.std.specs.List.{filter, AllByRecursion as Each}
use Rattle.std.proofs.lemmas.Bool.{and_from, and_parts, cases_Bool, eq-eqb, le-leb, lt-ltb, not_from_false, or_left, or_parts, or_right}
use Rattle.std.proofs.lemmas.List.{length-replicate, map-append}
use Rattle.std.proofs.lemmas.List.Elements.{All-contains, All-map, All-weaker, filter_passes}
use Rattle.std.proofs.lemmas.List.Folds.{list_any-append, list_any_at}
use Rattle.flat_ir.specs.declared.program.FieldValue.{FieldValue}
use Rattle.flat_ir.specs.declared.program.ValueId.{ValueId}
use Rattle.flat_ir.specs.declared.spans.Span.{Span}
use Rattle.flat_ir.specs.Kinds.{is_input}
use Rattle.flat_ir.specs.Program.{is_named, step_at, Program}
use Rattle.flat_ir.specs.Spans.{covers, last_step}
use Rattle.flat_ir.specs.WellFormed.{IsWellFormed}
use Rattle.split_model.specs.declared.layout.Crossing.{Crossing}
use Rattle.split_model.specs.declared.split.Part.{Part}
use Rattle.split_model.specs.declared.split.Slow.{Slow}
use Rattle.split_model.specs.declared.split.Slow.TheVariants.{Carried, Server, Post}
use Rattle.split_model.specs.Crossing.{crosses_down, crosses_up}
use Rattle.split_model.specs.Layouts.{crossing, down_layout, down_values, number_of, up_layout, values_of}
use Rattle.split_model.specs.Passes.{server_fields}
use Rattle.split_model.specs.Split.{is_carried, is_carried_up, is_post, is_served, is_server, part_at, stage_after}
use Rattle.transfer_header.specs.Registers.{Registers}
use Rattle.transfer_header.specs.Steps.{is_among, AreSpansOf, IsNeeded, IsSpanOf, Steps}
use Rattle.server_runtime.specs.Registers.{AreServing}
use Rattle.server_runtime.specs.Spans.{is_taken, is_turn, last_read, numbers_of, reads_at, server_spans, span_from, values_at, values_kept, values_read, writes_at}
use Rattle.server_runtime.proofs.Contents.{among_filtered, among_results}
use Rattle.server_runtime.proofs.Numbers.{below_all, count_at, named_parts}
use Rattle.server_runtime.proofs.Spanned.{all_among, are_spans, writer, writes_within}
use Rattle.transfer_header.proofs.LayoutValues.{same_places}
use Rattle.transfer_header.proofs.Members.{has_span, HasSpan}
use Rattle.transfer_header.proofs.Laws.{values_have_their_numbers}

-- ## Registers in the same places

pub still_serving : (f : Program) (split : List Part) (before after : Registers) → after.plan ≡ before.plan → length after.numbers ≡ length before.numbers
    → AreServing f split before → AreServing f split after
still_serving f split before after plan count serving =
    let same = same_places before after plan count in
    record {
      apart = record {
        has = λ span there. subst (λ (place : Option ℕ). IsSome place) (sym (same span.value)) (serving.apart.has span there);
        none = λ value e. same value ∙ serving.apart.none value e;
        apart = λ a b step ia ib differ ca cb e. serving.apart.apart a b step ia ib differ ca cb (sym (same a.value) ∙ e ∙ same b.value);
      };
      placed = λ value place e. omega (arith, count, serving.placed value place (sym (same value) ∙ e));
    }

-- registers in which each number is 0 again
pub cleared_serving : (f : Program) (split : List Part) (before after : Registers) → after.plan ≡ before.plan
    → after.numbers ≡ replicate (length before.numbers) 0 → AreServing f split before → AreServing f split after
cleared_serving f split before after plan numbers serving =
    still_serving f split before after plan (ap length numbers ∙ length-replicate (length before.numbers) 0) serving

-- ## Values and steps

-- what is neither the server's nor postprocessing's is carried
carried_else : (slow : Slow) → is_served slow ≡ false → is_some (stage_after slow) ≡ false → is_carried_up slow ≡ true
carried_else Carried served post = refl
carried_else Server served post = absurd (true≢false served)
carried_else (Post stage) served post = absurd (true≢false post)

module _ (f : Program) (split : List Part) (well : IsWellFormed f) where
  -- any numbers serve
  abbrev steps : Steps
  steps = record { reads = reads_at f split; writes = writes_at f split; number = λ step contents. contents }

  spans : AreSpansOf steps (server_spans f split)
  spans = are_spans f split well (λ step contents. contents)

  up_named : (v : ValueId) → crosses_up f split v ≡ true → is_named f v ≡ true
  up_named v e = (and_parts (is_named f v) _ (and_parts _ _ e).0).0

  pub down_named : (v : ValueId) → crosses_down f split v ≡ true → is_named f v ≡ true
  down_named v e = (and_parts (is_named f v) _ (and_parts _ _ e).0).0

  pub up_among : (v : ValueId) → crosses_up f split v ≡ true → is_among (number_of f v) (writes_at f split 0) ≡ true
  up_among v e = among_filtered f (crosses_up f split) (values_of f) (number_of f v) v (values_have_their_numbers f v (up_named v e)) e

  pub kept_read : (n : ℕ) → is_among n (numbers_of f (values_kept f split)) ≡ true → reads_at f split (suc (length f.code)) n ≡ true
  kept_read n e =
      or_right (is_taken f split (length f.code) && is_among n (numbers_of f (values_read f (length f.code)))) (length f.code == length f.code && is_among n (numbers_of f (values_kept f split)))
      (and_from (length f.code == length f.code) (is_among n (numbers_of f (values_kept f split))) (eq-eqb (length f.code) (length f.code) refl) e)

  pub down_kept : (v : ValueId) → crosses_down f split v ≡ true → is_among (number_of f v) (numbers_of f (values_kept f split)) ≡ true
  down_kept v e =
      let n = number_of f v in
      let more = map (λ (w : FieldValue). w.value) (server_fields f split) in
      ap (is_among n) (map-append (number_of f) (down_values f split) more)
      ∙ list_any-append (λ (x : ℕ). x == n) (numbers_of f (down_values f split)) (numbers_of f more)
      ∙ or_left (is_among n (numbers_of f (down_values f split))) (is_among n (numbers_of f more))
      (among_filtered f (crosses_down f split) (values_of f) n v (values_have_their_numbers f v (down_named v e)) e)

  -- ## What is needed at a step

  span_of : (step n : ℕ) → is_among n (writes_at f split step) ≡ true → HasSpan (server_spans f split) n
  span_of step n e = has_span (server_spans f split) n (omega (arith, spans.written step n e))

  is_span : (n : ℕ) (h : HasSpan (server_spans f split) n) → IsSpanOf steps h.span
  is_span n h = All-contains (IsSpanOf steps) (server_spans f split) h.span spans.each h.there

  needed : (step n : ℕ) (h : HasSpan (server_spans f split) n) → h.span.from ≤ step → step ≤ last_step h.span → IsNeeded (server_spans f split) step n
  needed step n h from last =
      let test = λ (span : Span). span.value == n && covers step span in
      list_any_at test (server_spans f split) h.there.0 h.span h.there.1
      (ap test h.there.2 ∙ and_from (h.span.value == n) (covers step h.span) (eq-eqb h.span.value n h.same)
      (and_from (nat_le h.span.from step) (nat_le step (last_step h.span)) (le-leb h.span.from step from) (le-leb step (last_step h.span) last)))

  needed_up : (v : ValueId) → crosses_up f split v ≡ true → IsNeeded (server_spans f split) 0 (number_of f v)
  needed_up v e =
      let n = number_of f v in
      let h = span_of 0 n (up_among v e) in
      let at : 0 ≡ h.span.from = (is_span n h).once 0 (ap (λ (k : ℕ). is_among k (writes_at f split 0)) h.same ∙ up_among v e) in
      needed 0 n h (omega (arith, at)) (omega arith)

  -- a step that writes a value
  record IsWritten (n : ℕ) : Type 0 where
    step : ℕ
    writes : is_among n (writes_at f split step) ≡ true

  turn_written : (v : ValueId) → is_named f v ≡ true → is_turn f split v.instruction ≡ true → IsWritten (number_of f v)
  turn_written v named mine =
      let parts = named_parts f v named in
      let taken : is_taken f split v.instruction ≡ true = ap (λ b. b && is_turn f split v.instruction) (lt-ltb v.instruction (length f.code) parts.0) ∙ mine in
      record {
        step = suc v.instruction;
        writes = ap (λ (b : Bool). is_among (number_of f v) (cond b (numbers_of f (values_at f v.instruction)) [])) taken
            ∙ among_results f v.instruction (count_at f v.instruction) v.result parts.1;
      }

  down_written : (v : ValueId) → crosses_down f split v ≡ true → IsWritten (number_of f v)
  down_written v e = elim (cases_Bool (is_turn f split v.instruction)) [
    | inl mine ↦ turn_written v (down_named v e) mine
    | inr other ↦ (
        let parts = or_parts (is_input (step_at f v.instruction).work) (is_server split v.instruction) other in
        let not_post : is_post split v.instruction ≡ false = not_true (is_post split v.instruction) (and_parts (is_named f v) _ (and_parts _ _ e).0).1 in
        let carried : is_carried split v.instruction ≡ true = carried_else (part_at split v.instruction).slow parts.1 not_post in
        record {
          step = 0;
          writes = up_among v (and_from _ _
              (and_from (is_named f v) _ (down_named v e) (and_from (is_carried split v.instruction) _ carried (not_from_false (is_input (step_at f v.instruction).work) parts.0)))
              (or_right _ _ (or_right _ _ (or_left (crosses_down f split v) _ e))));
        }
        )
  ]
    where
      not_true : (b : Bool) → not b ≡ true → b ≡ false
      not_true true e = absurd (true≢false (sym e))
      not_true false e = refl

  needed_down : (v : ValueId) → crosses_down f split v ≡ true → IsNeeded (server_spans f split) (length f.code) (number_of f v)
  needed_down v e =
      let n = number_of f v in
      let w = down_written v e in
      let h = span_of w.step n w.writes in
      let is = is_span n h in
      let early = writes_within f split well h.span.value h.span.from is.first in
      let late = is.last (suc (length f.code)) (ap (reads_at f split (suc (length f.code))) h.same ∙ kept_read n (down_kept v e)) in
      needed (length f.code) n h (omega (arith, early)) (omega (arith, late))

  pub up_needed : All (λ (c : Crossing). IsNeeded (server_spans f split) 0 c.number) (up_layout f split)
  up_needed =
      All-map (λ (c : Crossing). IsNeeded (server_spans f split) 0 c.number) (crossing f) (filter (crosses_up f split) (values_of f))
      (All-weaker (λ v. crosses_up f split v ≡ true) (λ v. IsNeeded (server_spans f split) 0 (number_of f v)) needed_up (filter (crosses_up f split) (values_of f))
      (filter_passes (crosses_up f split) (values_of f)))

  pub down_needed : All (λ (c : Crossing). IsNeeded (server_spans f split) (length f.code) c.number) (down_layout f split)
  down_needed =
      All-map (λ (c : Crossing). IsNeeded (server_spans f split) (length f.code) c.number) (crossing f) (filter (crosses_down f split) (values_of f))
      (All-weaker (λ v. crosses_down f split v ≡ true) (λ v. IsNeeded (server_spans f split) (length f.code) (number_of f v)) needed_down (filter (crosses_down f split) (values_of f))
      (filter_passes (crosses_down f split) (values_of f)))

  -- what a step writes has a number
  pub writes_low : (step : ℕ) → All (λ (n : ℕ). n < length (values_of f)) (writes_at f split step)
  writes_low step =
      let ws = writes_at f split step in
      All-weaker (λ (n : ℕ). is_among n ws ≡ true) (λ (n : ℕ). n < length (values_of f))
      (λ n e.
      let w = writer f split well step n e in
      let parts = named_parts f w.value w.holds.0 in
      omega (arith, parts.1, below_all f w.value.instruction parts.0, w.number))
      ws (all_among ws)

-- spans by the last step that reads each value
pub spans_same : (f : Program) (split : List Part) (step : ℕ) (last : List ℕ) → ((n : ℕ) → n < length (values_of f) → get_or last n 0 ≡ last_read f split n)
    → (ws : List ℕ) → Each (λ (n : ℕ). n < length (values_of f)) ws
    → map {B = Span} (λ (n : ℕ). record { value = n; from = step; to = max step (get_or last n 0) }) ws ≡ map (span_from f split step) ws
spans_same f split step last is [] h = refl
spans_same f split step last is (n ∷ ns) h =
    (λ p. (record { value = n; from = step; to = max step (is n h.0 p) }) ∷ spans_same f split step last is ns h.1 p)
