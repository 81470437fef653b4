-- Registers into which a frame was read hold what stands in it.
use Rattle.std.proofs.Common.{◌≡◌, ◌+◌, ◌<◌, ◌^◌, ℕ, suc, Bool, true, false, cond, List, [], ◌∷◌, map, get_or, drop, slice_get, Option, Some, None, Result, Ok, Err, refl, sym, ap, ◌∙◌, subst, arith, inl, inr}
use Rattle.std.specs.List.{filter}
use Rattle.std.specs.Result.{IfOk, OnErr}
use Rattle.std.proofs.lemmas.Bool.{cases_Bool, cond-false, cond-true}
use Rattle.std.proofs.lemmas.List.{get_or-drop}
use Rattle.std.proofs.lemmas.List.Elements.{All-contains}
use Rattle.std.proofs.lemmas.Nat.{pow_pos}
use Rattle.flat_ir.specs.declared.program.ValueId.{ValueId}
use Rattle.flat_ir.specs.Arrivals.{IsArrival}
use Rattle.flat_ir.specs.Blocks.{Reading}
use Rattle.flat_ir.specs.Laws.{AllFit}
use Rattle.flat_ir.specs.Program.{width_of_value, Program}
use Rattle.flat_ir.specs.Spans.{spans_of}
use Rattle.flat_ir.specs.WellFormed.{IsWellFormed}
use Rattle.split_model.specs.declared.split.Part.{Part}
use Rattle.split_model.specs.Crossing.{crosses_up, is_value}
use Rattle.split_model.specs.Layouts.{crossing, number_of, up_layout, values_of}
use Rattle.transfer_header.specs.declared.frame.Head.{Head}
use Rattle.transfer_header.specs.Frames.{IsUnpacked}
use Rattle.transfer_header.specs.Registers.{content_of, value_in, Registers}
use Rattle.transfer_header.specs.Steps.{is_among, IsReady, IsSpanOf}
use Rattle.transfer_header.specs.Told.{reads_in, value_among, AreToldByPlace, IsToldByPlace}
use Rattle.server_runtime.specs.Registers.{contents_of, handed, number_by, AreServing}
use Rattle.server_runtime.specs.Spans.{reads_at, server_spans, writes_at}
use Rattle.server_runtime.specs.StepsTaken.{IsRead}
use Rattle.server_runtime.proofs.Contents.{reads_back, there}
use Rattle.server_runtime.proofs.Needed.{up_among}
use Rattle.server_runtime.proofs.Spanned.{are_spans, writer}
use Rattle.flat_ir.proofs.Exact.{value_same}
use Rattle.lemmas.proofs.Tests.{true_not_false}

-- ## What doesn't cross

-- a value that doesn't cross has the number 0
others_apart : (crosses : ValueId → Bool) (v x : ValueId) → crosses v ≡ false → crosses x ≡ true → (b : Bool) → is_value x v ≡ b → b ≡ false
others_apart crosses v x none e true same = absurd (true_not_false (sym e ∙ ap crosses (value_same x v same) ∙ none))
others_apart crosses v x none e false same = refl

not_among_more : (f : Program) (crosses : ValueId → Bool) (v : ValueId) → crosses v ≡ false → (x : ValueId) (xs : List ValueId) (bits : List ℕ)
    → ((bits : List ℕ) → value_among (map (crossing f) (filter crosses xs)) bits v ≡ 0)
    → (b : Bool) → crosses x ≡ b → value_among (map (crossing f) (cond b (x ∷ filter crosses xs) (filter crosses xs))) bits v ≡ 0
not_among_more f crosses v none x xs bits rest true e =
    cond-false (is_value x v) _ _ (others_apart crosses v x none e (is_value x v) refl) ∙ rest (drop (width_of_value f x) bits)
not_among_more f crosses v none x xs bits rest false e = rest bits

not_among : (f : Program) (crosses : ValueId → Bool) (v : ValueId) → crosses v ≡ false → (vs : List ValueId) (bits : List ℕ)
    → value_among (map (crossing f) (filter crosses vs)) bits v ≡ 0
not_among f crosses v none [] bits = refl
not_among f crosses v none (x ∷ xs) bits = not_among_more f crosses v none x xs bits (not_among f crosses v none xs) (crosses x) refl

module _ (f : Program) (split : List Part) (well : IsWellFormed f)
    (frame : List ℕ) (after : Registers) (serving : AreServing f split after)
    (told : AreToldByPlace f (crosses_up f split) (up_layout f split) (value_in after) frame) where
  abbrev up : Reading
  up = handed f split after

  value_read : (v : ValueId) → up v ≡ reads_in (up_layout f split) frame v
  value_read v = by_test (crosses_up f split v) refl
    where
      by_test : (b : Bool) → crosses_up f split v ≡ b → up v ≡ reads_in (up_layout f split) frame v
      by_test true e = cond-true (crosses_up f split v) (content_of after (number_of f v)) 0 e ∙ sym (told.numbers v e)
      by_test false e = cond-false (crosses_up f split v) (content_of after (number_of f v)) 0 e ∙ sym (not_among f (crosses_up f split) v e (values_of f) _)

  all_read : up ≡ reads_in (up_layout f split) frame
  all_read = λ p v. value_read v p

  read_fits : (v : ValueId) → reads_in (up_layout f split) frame v < 2 ^ width_of_value f v
  read_fits v = by_test (crosses_up f split v) refl
    where
      by_test : (b : Bool) → crosses_up f split v ≡ b → reads_in (up_layout f split) frame v < 2 ^ width_of_value f v
      by_test true e = told.narrow v e
      by_test false e = subst (λ k. k < 2 ^ width_of_value f v) (sym (not_among f (crosses_up f split) v e (values_of f) _)) (pow_pos (width_of_value f v))

  -- what is written at step 0 is handed up
  stands : (n : ℕ) → is_among n (writes_at f split 0) ≡ true → content_of after n ≡ contents_of f up n
  stands n among =
      let w = writer f split well 0 n among in
      let v = w.value in
      elim (cases_Bool (crosses_up f split v)) [
        | inl e ↦ subst (λ k. content_of after k ≡ contents_of f up k) w.number
            (sym (reads_back f up v w.holds.0 ∙ cond-true (crosses_up f split v) (content_of after (number_of f v)) 0 e))
        | inr e ↦ absurd (omega (arith, w.holds.1, cond-false (crosses_up f split v) 0 (suc v.instruction) e))
      ]

  zero_at : (n : ℕ) → spans_of (server_spans f split) n ≡ 0 → contents_of f up n ≡ 0
  zero_at n none = by_value (slice_get (values_of f) n) refl
    where
      by_value : (o : Option ValueId) → slice_get (values_of f) n ≡ o → number_by up o ≡ 0
      by_value None e = refl
      by_value (Some v) e = elim (cases_Bool (crosses_up f split v)) [
        | inl crosses ↦ (
            let at = (there f n v e).number in
            let one = (are_spans f split well (λ step contents. contents)).written 0 (number_of f v) (up_among f split well v crosses) in
            absurd (omega (arith, none, one, ap (spans_of (server_spans f split)) at))
            )
        | inr apart ↦ cond-false (crosses_up f split v) (content_of after (number_of f v)) 0 apart
      ]

  ready : IsReady (server_spans f split) after (contents_of f up) 1
  ready =
      let spans = are_spans f split well (λ step contents. contents) in
      record {
        apart = serving.apart;
        placed = serving.placed;
        stands = λ span inside from to.
            let is = All-contains (IsSpanOf (record { reads = reads_at f split; writes = writes_at f split; number = λ step contents. contents })) (server_spans f split) span spans.each inside in
            let first : span.from ≡ 0 = omega (arith, from) in
            stands span.value (ap (λ (step : ℕ). is_among span.value (writes_at f split step)) (sym first) ∙ is.first);
        zero = zero_at;
      }

  pub is_read : (before : Registers) (head : Head) → IsUnpacked 1 (up_layout f split) frame before after head
      → IsToldByPlace (up_layout f split) head.number head.port (drop head.packet_at frame) frame
      → ((i : ℕ) → get_or frame i 0 < 2 ^ 8)
      → IsRead f split frame after head
  is_read before head unpacked place bytes = record {
    number = sym place.numbered;
    packet = sym place.carries;
    within = unpacked.within;
    reads = all_read;
    ready = ready;
    fit = subst (AllFit f) (sym all_read) read_fits;
    arrives = subst IsArrival (sym place.carries) (record {
      port = unpacked.is.one_byte;
      bytes = λ i. subst (λ k. k < 2 ^ 8) (sym (get_or-drop head.packet_at frame i 0)) (bytes (head.packet_at + i));
      size = unpacked.is.short;
    });
  }

-- of what is ok
pub ok_more : {X Y : Type 0} (P Q : X → Type 0) → ((x : X) → P x → Q x) → (r : Result X Y) → IfOk r P → IfOk r Q
ok_more P Q go (Ok x) h = go x h
ok_more P Q go (Err e) h = tt

-- what follows from either
pub by_result : {X Y : Type 0} (P : X → Type 0) (Q R : Type 0) → ((x : X) → P x → R) → (Q → R) → (r : Result X Y) → IfOk r P → OnErr r Q → R
by_result P Q R ok err (Ok x) h k = ok x h
by_result P Q R ok err (Err e) h k = err k
