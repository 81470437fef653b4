-- What is known of values that cross down, and of those that the server sets fields to.
use Rattle.std.proofs.Common.{◌≡◌, ◌==◌, true, false, not, ◌&&◌, ◌||◌, List, [], ◌∷◌, refl, ap, ◌∙◌, ⊎_elim}
use Rattle.std.proofs.lemmas.Bool.{false≢true, and_from, and_parts, or_left, or_right, or_cases, eqb-true, not-true}
use Rattle.std.specs.List.{AllByRecursion as Each, list_any}
use Rattle.flat_ir.specs.declared.program.FieldValue.{FieldValue}
use Rattle.flat_ir.specs.declared.program.ValueId.{ValueId}
use Rattle.flat_ir.specs.Kinds.{is_input}
use Rattle.flat_ir.specs.Program.{Program, Work, step_at, is_named}
use Rattle.flat_ir.specs.Program.Work.{const, field}
use Rattle.flat_ir.specs.WellFormed.{IsWellFormed, IsWritten}
use Rattle.split_model.specs.Crossing.{is_value, is_among, is_read_by, is_at_hand, is_server_write, is_written_value, guards_write, crosses_down, crosses_up}
use Rattle.split_model.specs.declared.split.Part.{Part}
use Rattle.split_model.specs.Split.{is_carried, is_post, is_server}
use Rattle.flat_ir.proofs.Exact.{same_itself}
use Rattle.lemmas.proofs.Lists.{each_weaker}

-- what is at hand is a const or a field
pub input_from : (f : Program) (split : List Part) (work : Work) → is_at_hand f split work ≡ true → is_input work ≡ true
input_from f split (const width number) e = refl
input_from f split (field name) e = refl
input_from f split _ e = absurd (false≢true e)

-- what is handed up is carried
pub carried_up : (f : Program) (split : List Part) (v : ValueId) → crosses_up f split v ≡ true → is_carried split v.instruction ≡ true
carried_up f split v e =
    let own = is_carried split v.instruction && not (is_input (step_at f v.instruction).work) in
    let parts = and_parts (is_named f v && own) (is_read_by f (is_server split) v || (guards_write f v || (crosses_down f split v || is_written_value f split v))) e in
    (and_parts (is_carried split v.instruction) (not (is_input (step_at f v.instruction).work)) ((and_parts (is_named f v) own parts.0).1)).0

-- what is handed down is there, and not of postprocessing
pub down_parts : (f : Program) (split : List Part) (v : ValueId) → crosses_down f split v ≡ true → (is_named f v ≡ true) × (is_post split v.instruction ≡ false)
down_parts f split v e =
    let reasons = is_among v (f.send ∷ f.port ∷ []) || (not (is_at_hand f split (step_at f v.instruction).work) && is_read_by f (is_post split) v) in
    let parts = and_parts (is_named f v) (not (is_post split v.instruction)) (and_parts (is_named f v && not (is_post split v.instruction)) reasons e).0 in
    (parts.0, not-true (is_post split v.instruction) parts.1)

named_as : (f : Program) (v w : ValueId) → is_value v w ≡ true → is_named f w ≡ true → is_named f v ≡ true
named_as f v w e named =
    let parts = and_parts (v.instruction == w.instruction) (v.result == w.result) e in
    ap (λ i. is_named f (record { instruction = i; result = v.result })) (eqb-true v.instruction w.instruction parts.0)
    ∙ ap (λ r. is_named f (record { instruction = w.instruction; result = r })) (eqb-true v.result w.result parts.1)
    ∙ named

apart_as : (split : List Part) (v w : ValueId) → is_value v w ≡ true → not (is_post split w.instruction) ≡ true → is_post split v.instruction ≡ false
apart_as split v w e apart =
    let parts = and_parts (v.instruction == w.instruction) (v.result == w.result) e in
    ap (is_post split) (eqb-true v.instruction w.instruction parts.0) ∙ not-true (is_post split w.instruction) apart

written_among : (f : Program) (split : List Part) (v : ValueId) (ws : List FieldValue) → Each (IsWritten f) ws → list_any (λ (w : FieldValue). is_server_write split w && is_value v w.value) ws ≡ true → (is_named f v ≡ true) × (is_post split v.instruction ≡ false)
written_among f split v [] outs e = absurd (false≢true e)
written_among f split v (w ∷ ws) outs e =
    ⊎_elim
    (λ here. let parts = and_parts (is_server_write split w) (is_value v w.value) here in (named_as f v w.value parts.1 outs.0.output.named, apart_as split v w.value parts.1 parts.0))
    (λ there. written_among f split v ws outs.1 there)
    (or_cases (is_server_write split w && is_value v w.value) (list_any (λ (x : FieldValue). is_server_write split x && is_value v x.value) ws) e)

pub written_parts : (f : Program) (split : List Part) (v : ValueId) → IsWellFormed f → is_written_value f split v ≡ true → (is_named f v ≡ true) × (is_post split v.instruction ≡ false)
written_parts f split v well e = written_among f split v f.fields well.fields e

-- each value that a field is set to by the server is one that the server sets
pub each_written : (split : List Part) (ws : List FieldValue) → Each (λ (w : FieldValue). is_post split w.value.instruction ≡ false → list_any (λ (u : FieldValue). is_server_write split u && is_value w.value u.value) ws ≡ true) ws
each_written split [] = tt
each_written split (w ∷ ws) = (
  λ e. or_left (is_server_write split w && is_value w.value w.value) (list_any (λ (u : FieldValue). is_server_write split u && is_value w.value u.value) ws) (and_from (is_server_write split w) (is_value w.value w.value) (ap not e) (same_itself w.value)),
  each_weaker (λ (x : FieldValue). is_post split x.value.instruction ≡ false → list_any (λ (u : FieldValue). is_server_write split u && is_value x.value u.value) ws ≡ true) (λ (x : FieldValue). is_post split x.value.instruction ≡ false → list_any (λ (u : FieldValue). is_server_write split u && is_value x.value u.value) (w ∷ ws) ≡ true)
      (λ (x : FieldValue) h e. or_right (is_server_write split w && is_value x.value w.value) (list_any (λ (u : FieldValue). is_server_write split u && is_value x.value u.value) ws) (h e)) ws (each_written split ws),
)
