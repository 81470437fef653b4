-- What postprocessing begins with.
use Rattle.std.proofs.Common.{◌≡◌, ◌<◌, ℕ, zero, suc, ◌==◌, Bool, true, false, not, ◌&&◌, ◌||◌, List, [], ◌∷◌, map, length, Some, None, refl, sym, ap, ◌∙◌, ⊎_elim, slice_get, slice_index, if◌then◌else◌}
use Rattle.std.proofs.lemmas.Bool.{cond-true, cond-false, cases_Bool, cases_lt, eq-eqb, and_parts, and_from, or_cases, or_left, or_right, false≢true}
use Rattle.std.proofs.lemmas.List.{get_or_past}
use Rattle.std.specs.List.{filter}
use Rattle.packet_fields.specs.declared.packet.Packet.{Packet}
use Rattle.flat_ir.specs.declared.program.ValueId.{ValueId}
use Rattle.flat_ir.specs.Program.{Program, Step, Work, step_at, is_named}
use Rattle.flat_ir.specs.Program.Work.{const, field}
use Rattle.flat_ir.specs.Blocks.{Reading, nothing}
use Rattle.flat_ir.specs.Run.{results}
use Rattle.split_model.specs.declared.layout.Crossing.{Crossing}
use Rattle.split_model.specs.declared.split.Part.{Part}
use Rattle.split_model.specs.Crossing.{is_value, is_among, is_at_hand, is_read_by, crosses_down}
use Rattle.split_model.specs.Layouts.{crossing, values_of, number_of, down_layout}
use Rattle.split_model.specs.Passes.{is_stage, given_down}
use Rattle.split_model.specs.Split.{is_post}
use Rattle.transfer_header.specs.Values.{value_by}
use Rattle.switch_ir.specs.Emitted.{given_stage, is_given, is_read_after, only_value, steps_of, emitted}
use Rattle.switch_ir.specs.Meaning.{after_stage, crosses, handed, down_given}
use Rattle.switch_ir.proofs.Passes.{one_stage, past_stage}
use Rattle.flat_ir.proofs.Exact.{value_same as same_value}
use Rattle.transfer_header.proofs.Laws.{values_have_their_numbers}
use Rattle.lemmas.proofs.Tests.{same_tests}

pub value_same : (a b : ValueId) → a ≡ b → is_value a b ≡ true
value_same a b e =
    and_from (a.instruction == b.instruction) (a.result == b.result)
    (eq-eqb a.instruction b.instruction (ap (λ (v : ValueId). v.instruction) e)) (eq-eqb a.result b.result (ap (λ (v : ValueId). v.result) e))

-- ## The values of a layout

module _ (f : Program) (test : ValueId → Bool) (v : ValueId) where
  abbrev layout : List ValueId → List Crossing
  layout vs = map (crossing f) (filter test vs)

  found : (vs : List ValueId) (k : ℕ) → test v ≡ true → slice_get vs k ≡ Some v → crosses (layout vs) v ≡ true
  found [] k passes e = cc
  found (x ∷ xs) zero passes e =
      let same : x ≡ v = cc in
      ap (λ b. crosses (map (crossing f) (if b then x ∷ filter test xs else filter test xs)) v) (ap test same ∙ passes)
      ∙ or_left (is_value x v) (crosses (layout xs) v) (value_same x v same)
  found (x ∷ xs) (suc k) passes e = by_test (test x) (found xs k passes e)
    where
      by_test : (b : Bool) → crosses (layout xs) v ≡ true → crosses (map (crossing f) (if b then x ∷ filter test xs else filter test xs)) v ≡ true
      by_test true later = or_right (is_value x v) (crosses (layout xs) v) later
      by_test false later = later

  passed : (vs : List ValueId) → crosses (layout vs) v ≡ true → test v ≡ true
  passed [] e = absurd (false≢true e)
  passed (x ∷ xs) e = by_test (test x) refl (passed xs) e
    where
      by_test : (b : Bool) → test x ≡ b → (crosses (layout xs) v ≡ true → test v ≡ true)
          → crosses (map (crossing f) (if b then x ∷ filter test xs else filter test xs)) v ≡ true → test v ≡ true
      by_test true own later e =
          ⊎_elim (λ same. ap test (sym (same_value x v same)) ∙ own) later (or_cases (is_value x v) (crosses (layout xs) v) e)
      by_test false own later e = later e

-- a value that crosses down is one of the program, and isn't computed by postprocessing
pub crossing_parts : (f : Program) (split : List Part) (v : ValueId) → crosses_down f split v ≡ true → (is_named f v ≡ true) × (not (is_post split v.instruction) ≡ true)
crossing_parts f split v e =
    let later = not (is_post split v.instruction) in
    let read = is_among v (f.send ∷ f.port ∷ []) || (not (is_at_hand f split (step_at f v.instruction).work) && is_read_by f (is_post split) v) in
    and_parts (is_named f v) later ((and_parts (is_named f v && later) read e).0)

-- the layout has the values that cross
layout_exact : (f : Program) (split : List Part) (v : ValueId) → crosses (down_layout f split) v ≡ crosses_down f split v
layout_exact f split v =
    same_tests (crosses (down_layout f split) v) (crosses_down f split v)
    (passed f (crosses_down f split) v (values_of f))
    (λ e. found f (crosses_down f split) v (values_of f) (number_of f v) e (values_have_their_numbers f v (crossing_parts f split v e).0))

handed_is : (layout : List Crossing) (down : Reading) (v : ValueId) → crosses layout v ≡ true → handed layout (value_by down) v ≡ down v
handed_is [] down v e = absurd (false≢true e)
handed_is (c ∷ cs) down v e = by_test (is_value c.value v) refl (handed_is cs down v)
  where
    by_test : (b : Bool) → is_value c.value v ≡ b → (crosses cs v ≡ true → handed cs (value_by down) v ≡ down v)
        → (if b then down c.value else handed cs (value_by down) v) ≡ down v
    by_test true same more = ap down (same_value c.value v same)
    by_test false other more = more (ap (λ b. b || crosses cs v) (sym other) ∙ e)

-- ## What is at hand

by_hand : (b : Bool) (x : ℕ) → (if is_stage (if b then Some 0 else None) 0 then x else 0) ≡ (if b then x else 0)
by_hand true x = refl
by_hand false x = refl

zero_at : (n : ℕ) → slice_index (0 ∷ []) n ≡ 0
zero_at zero = refl
zero_at (suc n) = refl

module _ (f : Program) (split : List Part) (packet : Packet) (v : ValueId) where
  abbrev at_hand : Work → ℕ
  at_hand work = if is_at_hand f split work then slice_index (results nothing false [] packet work) v.result else 0

  inputs_are : (lt : v.instruction < length f.code)
      → after_stage (steps_of f (given_stage f split)) 0 nothing [] packet v
      ≡ (if is_given f split v.instruction then slice_index (results nothing false [] packet (step_at f v.instruction).work) v.result else 0)
  inputs_are lt =
      one_stage f (given_stage f split) 0 nothing [] packet v lt
      ∙ by_hand (is_given f split v.instruction) (slice_index (results nothing false [] packet (step_at f v.instruction).work) v.result)

  -- what is at hand has one value
  one_alone : (work : Work) (n : ℕ) → is_at_hand f split work ≡ true → slice_index (results nothing false [] packet work) (suc n) ≡ 0
  one_alone (const width number) n e = refl
  one_alone (field name) n e = refl
  one_alone work n e = absurd (false≢true e)

  nothing_either : (b : Bool) (x : ℕ) → x ≡ 0 → (if b then x else 0) ≡ 0
  nothing_either true x e = e
  nothing_either false x e = refl

  -- a value at hand that is read, and neither computed nor handed down, is given
  is_one : v.result ≡ 0 → only_value v.instruction ≡ v
  is_one e = λ i. record { instruction = v.instruction; result = sym e i }

  given_there : (n : ℕ) → v.result ≡ n → is_post split v.instruction ≡ false → crosses_down f split v ≡ false → is_read_after f split v ≡ true
      → (hand : Bool) → is_at_hand f split (step_at f v.instruction).work ≡ hand
      → (if is_given f split v.instruction then slice_index (results nothing false [] packet (step_at f v.instruction).work) v.result else 0)
      ≡ (if hand then slice_index (results nothing false [] packet (step_at f v.instruction).work) v.result else 0)
  given_there n at post crossing read false hand =
      let x = slice_index (results nothing false [] packet (step_at f v.instruction).work) v.result in
      ap (λ b. if b && (not (is_post split v.instruction) && (not (crosses_down f split (only_value v.instruction)) && is_read_after f split (only_value v.instruction))) then x else 0) hand
  given_there zero at post crossing read true hand =
      let x = slice_index (results nothing false [] packet (step_at f v.instruction).work) v.result in
      let own = only_value v.instruction in
      cond-true (is_given f split v.instruction) x 0
      (and_from (is_at_hand f split (step_at f v.instruction).work) (not (is_post split v.instruction) && (not (crosses_down f split own) && is_read_after f split own)) hand
      (and_from (not (is_post split v.instruction)) (not (crosses_down f split own) && is_read_after f split own) (ap not post)
      (and_from (not (crosses_down f split own)) (is_read_after f split own) (ap (λ w. not (crosses_down f split w)) (is_one at) ∙ ap not crossing) (ap (is_read_after f split) (is_one at) ∙ read))))
  given_there (suc n) at post crossing read true hand =
      let work = (step_at f v.instruction).work in
      let x = slice_index (results nothing false [] packet work) v.result in
      let none : x ≡ 0 = ap (slice_index (results nothing false [] packet work)) at ∙ one_alone work n hand in
      nothing_either (is_given f split v.instruction) x none ∙ sym none

  inputs_same : is_post split v.instruction ≡ false → crosses_down f split v ≡ false → is_read_after f split v ≡ true
      → after_stage (steps_of f (given_stage f split)) 0 nothing [] packet v ≡ at_hand (step_at f v.instruction).work
  inputs_same post crossing read =
      ⊎_elim
      (λ lt. inputs_are lt
      ∙ given_there v.result refl post crossing read (is_at_hand f split (step_at f v.instruction).work) refl)
      (λ le. past_stage f (given_stage f split) 0 nothing [] packet v le
      ∙ sym (ap (λ (s : Step). at_hand s.work) (get_or_past f.code v.instruction (record { block = 0; looped = false; work = const 1 0 }) le) ∙ zero_at v.result))
      (cases_lt v.instruction (length f.code))

  -- the code gives postprocessing what the split gives it, of the values that it reads and doesn't compute
  pub given_same : (writeback : ℕ) (down : Reading) → is_post split v.instruction ≡ false → is_read_after f split v ≡ true
      → down_given (emitted f split writeback) (value_by down) packet v ≡ given_down f split down packet v
  given_same writeback down post read =
      let inside = handed (down_layout f split) (value_by down) v in
      let outside = after_stage (steps_of f (given_stage f split)) 0 nothing [] packet v in
      let own = at_hand (step_at f v.instruction).work in
      let exact = layout_exact f split v in
      ⊎_elim
      (λ yes. cond-true (crosses (down_layout f split) v) inside outside (exact ∙ yes)
      ∙ handed_is (down_layout f split) down v (exact ∙ yes)
      ∙ sym (cond-true (crosses_down f split v) (down v) own yes))
      (λ no. cond-false (crosses (down_layout f split) v) inside outside (exact ∙ no)
      ∙ inputs_same post no read
      ∙ sym (cond-false (crosses_down f split v) (down v) own no))
      (cases_Bool (crosses_down f split v))
