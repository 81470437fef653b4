-- In a pass each value is its instruction's result of the pass's values.
use Rattle.std.proofs.Common.{◌≡◌, ℕ, zero, suc, ◌<◌, Bool, true, false, length, Option, Some, None, is_some, refl, sym, ap, ◌∙◌, arith, ⊎_elim, slice_index, if◌then◌else◌}
use Rattle.std.proofs.lemmas.Bool.{cond-true, cond-false, eq-eqb, ne_eqb, false≢true}
use Rattle.std.proofs.Math.Nat.{eq-or-lt_of_le}
use Rattle.std.specs.List.{AllByRecursion as Each}
use Rattle.packet_fields.specs.declared.packet.Packet.{Packet}
use Rattle.state_store.specs.Store.{Store}
use Rattle.flat_ir.specs.declared.program.ValueId.{ValueId}
use Rattle.flat_ir.specs.Program.{Program, step_at, operands}
use Rattle.flat_ir.specs.Blocks.{Reading}
use Rattle.flat_ir.specs.Run.{results}
use Rattle.flat_ir.specs.Laws.{Same}
use Rattle.flat_ir.proofs.Laws.{readings_that_agree-operands, readings_that_agree-results}
use Rattle.split_model.specs.Passes.{is_stage, done_below, value_from, pass}
use Rattle.split_model.proofs.Rules.{IsLower, IsRising}
use Rattle.lemmas.proofs.Lists.{each_all, each_weaker}

module _ (f : Program) (stage : ℕ → Option ℕ) (given : Reading) (tables : Store) (packet : Packet) where
  abbrev pub done : ℕ → Reading
  done = done_below f stage given tables packet

  abbrev pub all : Reading
  all = pass f stage given tables packet

  -- an instruction's result at a place, from these values
  abbrev pub made_of : Reading → ValueId → ℕ
  made_of r v = slice_index (results r false tables packet (step_at f v.instruction).work) v.result

  done_given : (t : ℕ) (v : ValueId) → stage v.instruction ≡ None → done t v ≡ given v
  done_given zero v e = refl
  done_given (suc t) v e =
      cond-false (is_stage (stage v.instruction) t) (made_of (done t) v) (done t v) (ap (λ o. is_stage o t) e) ∙ done_given t v e

  pub pass_given : (v : ValueId) → stage v.instruction ≡ None → all v ≡ given v
  pass_given v e = ap (λ o. value_from o f stage given tables packet v) e

  pass_stage : (v : ValueId) (own : ℕ) → stage v.instruction ≡ Some own → all v ≡ made_of (done own) v
  pass_stage v own e = ap (λ o. value_from o f stage given tables packet v) e

  done_stage : (t own : ℕ) (v : ValueId) → stage v.instruction ≡ Some own → own < t → done t v ≡ all v
  done_stage zero own v e lt = absurd (omega (arith, lt))
  done_stage (suc t) own v e lt =
      ⊎_elim
      (λ same. cond-true (is_stage (stage v.instruction) t) (made_of (done t) v) (done t v) (ap (λ o. is_stage o t) e ∙ eq-eqb own t same) ∙ ap (λ u. made_of (done u) v) (sym same) ∙ sym (pass_stage v own e))
      (λ less. cond-false (is_stage (stage v.instruction) t) (made_of (done t) v) (done t v) (ap (λ o. is_stage o t) e ∙ ne_eqb own t (λ same. omega (arith, less, same))) ∙ done_stage t own v e less)
      (eq-or-lt_of_le {n = own} {m = t} (omega (arith, lt)))

  -- once the stages up to its own are done, a value is the pass's
  pub done_by : (t : ℕ) (v : ValueId) (o : Option ℕ) → stage v.instruction ≡ o → IsLower stage t v → done t v ≡ all v
  done_by t v None e low = done_given t v e ∙ sym (pass_given v e)
  done_by t v (Some own) e low = done_stage t own v e (low own e)

  pub pass_value : (v : ValueId) (own : ℕ) → stage v.instruction ≡ Some own → Each (IsLower stage own) (operands (step_at f v.instruction).work) → all v ≡ made_of all v
  pass_value v own e low =
      pass_stage v own e
      ∙ ap (λ rs. slice_index rs v.result) (readings_that_agree-results (done own) all false tables packet (step_at f v.instruction).work (readings_that_agree-operands (done own) all (step_at f v.instruction).work (each_weaker (IsLower stage own) (Same (done own) all) (λ w. done_by own w (stage w.instruction) refl) (operands (step_at f v.instruction).work) low)))

  value_case : (v : ValueId) (o : Option ℕ) → stage v.instruction ≡ o → is_some o ≡ true → IsRising f stage → v.instruction < length f.code → all v ≡ made_of all v
  value_case v None e some rising lt = absurd (false≢true some)
  value_case v (Some own) e some rising lt = pass_value v own e (rising v.instruction own lt e)

  -- where a pass computes an instruction, its values are its results of the pass's values
  pub staged_value : (v : ValueId) → is_some (stage v.instruction) ≡ true → IsRising f stage → v.instruction < length f.code → all v ≡ made_of all v
  staged_value v some rising lt = value_case v (stage v.instruction) refl some rising lt

  given_case : (v : ValueId) (o : Option ℕ) → stage v.instruction ≡ o → is_some o ≡ false → all v ≡ given v
  given_case v None e none = pass_given v e
  given_case v (Some own) e none = absurd (false≢true (sym none))

  pub given_value : (v : ValueId) → is_some (stage v.instruction) ≡ false → all v ≡ given v
  given_value v none = given_case v (stage v.instruction) refl none

pub chosen : (b : Bool) {x x' y y' : ℕ} → (b ≡ true → x ≡ x') → y ≡ y' → (if b then x else y) ≡ (if b then x' else y')
chosen true first second = first refl
chosen false first second = second

has_stage : (o : Option ℕ) (t : ℕ) → is_stage o t ≡ true → is_some o ≡ true
has_stage None t e = absurd (false≢true e)
has_stage (Some own) t e = refl

-- a pass that is given the same numbers, and reads the same in other tables and another packet, has the same values
module _ (f : Program) (stage : ℕ → Option ℕ) (given given' : Reading) (tables tables' : Store) (packet packet' : Packet) (alike : (v : ValueId) → given v ≡ given' v) (seen : (v : ValueId) → is_some (stage v.instruction) ≡ true → (r : Reading) → results r false tables packet (step_at f v.instruction).work ≡ results r false tables' packet' (step_at f v.instruction).work) where
  made_alike : (r r' : Reading) → ((v : ValueId) → r v ≡ r' v) → (v : ValueId) → is_some (stage v.instruction) ≡ true → slice_index (results r false tables packet (step_at f v.instruction).work) v.result ≡ slice_index (results r' false tables' packet' (step_at f v.instruction).work) v.result
  made_alike r r' h v some =
      let work = (step_at f v.instruction).work in
      ap (λ rs. slice_index rs v.result) (readings_that_agree-results r r' false tables packet work (readings_that_agree-operands r r' work (each_all (Same r r') h (operands work))) ∙ seen v some r')

  done_alike : (t : ℕ) (v : ValueId) → done_below f stage given tables packet t v ≡ done_below f stage given' tables' packet' t v
  done_alike zero v = alike v
  done_alike (suc t) v =
      chosen (is_stage (stage v.instruction) t) (λ own. made_alike (done_below f stage given tables packet t) (done_below f stage given' tables' packet' t) (done_alike t) v (has_stage (stage v.instruction) t own)) (done_alike t v)

  value_alike : (o : Option ℕ) (v : ValueId) → stage v.instruction ≡ o → value_from o f stage given tables packet v ≡ value_from o f stage given' tables' packet' v
  value_alike None v e = alike v
  value_alike (Some own) v e =
      made_alike (done_below f stage given tables packet own) (done_below f stage given' tables' packet' own) (done_alike own) v (ap is_some e)

  pub pass_alike : (v : ValueId) → pass f stage given tables packet v ≡ pass f stage given' tables' packet' v
  pass_alike v = value_alike (stage v.instruction) v refl
