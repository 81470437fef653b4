-- Postprocessing hangs on the values that it reads alone.
use Rattle.std.proofs.Common.{◌≡◌, ℕ, zero, suc, ◌==◌, ◌<◌, ◌≤◌, Bool, true, false, not, ◌&&◌, ◌||◌, List, [], ◌∷◌, length, nat_lt, Option, Some, None, is_some, refl, sym, ap, ◌∙◌, arith, ⊎_elim, slice_index}
use Rattle.std.proofs.lemmas.Bool.{cases_Bool, cases_lt, cond-true, cond-false, and_from, or_left, or_right, or_parts, or_cases, eq-eqb, eqb-true, ltb-true, false≢true, true≢false, not-false}
use Rattle.std.proofs.Math.Nat.{eq-or-lt_of_le}
use Rattle.std.specs.List.{AllByRecursion as Each, list_any}
use Rattle.std.proofs.lemmas.Option.{none-some}
use Rattle.packet_fields.specs.declared.packet.Packet.{Packet}
use Rattle.packet_fields.specs.Fields.{with_field}
use Rattle.state_store.specs.Store.{Store}
use Rattle.flat_ir.specs.declared.program.FieldValue.{FieldValue}
use Rattle.flat_ir.specs.declared.program.ValueId.{ValueId}
use Rattle.flat_ir.specs.Blocks.{Reading, same}
use Rattle.flat_ir.specs.Kinds.{is_input}
use Rattle.flat_ir.specs.Laws.{Same}
use Rattle.flat_ir.specs.Program.{Program, step_at, operands}
use Rattle.flat_ir.specs.Run.{results, with_writes}
use Rattle.split_model.specs.declared.split.Part.{Part}
use Rattle.split_model.specs.Crossing.{is_value, is_among, is_read_by}
use Rattle.split_model.specs.Legal.{IsLegal, is_misplaced, is_not_lower}
use Rattle.split_model.specs.Passes.{is_stage, done_below, pass, post_fields, value_from}
use Rattle.split_model.specs.Split.{is_post, pre_stage, post_stage}
use Rattle.switch_ir.specs.Emitted.{is_read_after, is_used_after}
use Rattle.switch_ir.proofs.PostStart.{value_same}
use Rattle.switch_ir.proofs.Places.{any_at}
use Rattle.flat_ir.proofs.Exact.{value_same as same_value}
use Rattle.flat_ir.proofs.Laws.{readings_that_agree-operands, readings_that_agree-results}
use Rattle.lemmas.proofs.Lists.{each_all, each_filter}

-- ## Tests

-- what holds of each value that is among others holds of each of these
each_among : (P : ValueId → Type 0) (vs : List ValueId) → ((v : ValueId) → is_among v vs ≡ true → P v) → Each P vs
each_among P [] go = tt
each_among P (x ∷ xs) go = (
  go x (or_left (is_value x x) (is_among x xs) (value_same x x refl)),
  each_among P xs (λ v e. go v (or_right (is_value v x) (is_among v xs) e)),
)

not_any : (test : ValueId → Bool) (vs : List ValueId) → list_any test vs ≡ false → (v : ValueId) → is_among v vs ≡ true → test v ≡ false
not_any test [] none v e = absurd (false≢true e)
not_any test (x ∷ xs) none v e =
    let parts = or_parts (test x) (list_any test xs) none in
    ⊎_elim
    (λ same. ap test (same_value v x same) ∙ parts.0)
    (λ later. not_any test xs parts.1 v later)
    (or_cases (is_value v x) (is_among v xs) e)

writes_alike : (r r' : Reading) (ws : List FieldValue) (bytes : List ℕ) → Each (λ (w : FieldValue). r w.value ≡ r' w.value) ws → with_writes ws r bytes ≡ with_writes ws r' bytes
writes_alike r r' [] bytes h = refl
writes_alike r r' (w ∷ ws) bytes h =
    ap (λ n. with_writes ws r (with_field bytes w.field n)) h.0 ∙ writes_alike r r' ws (with_field bytes w.field (r' w.value)) h.1

module _ (f : Program) (split : List Part) (legal : IsLegal f split) (within : (i : ℕ) → length f.code ≤ i → post_stage split i ≡ None) where
  abbrev stage : ℕ → Option ℕ
  stage = post_stage split

  abbrev IsBelow : ℕ → ValueId → Type 0
  IsBelow t v = (own : ℕ) → stage v.instruction ≡ Some own → own < t

  -- an operand that postprocessing computes has a lower stage
  lower : (i own : ℕ) → i < length f.code → stage i ≡ Some own → (v : ValueId) → is_among v (operands (step_at f i).work) ≡ true → IsBelow own v
  lower i own lt is v e other at =
      let work = (step_at f i).work in
      let rules = or_parts (is_misplaced f (pre_stage split) i (pre_stage split i)) (is_misplaced f stage i (stage i)) (legal.kept 9 i lt) in
      let placed = or_parts (not (same (is_input work) (own == 0))) (list_any (λ (w : ValueId). is_not_lower (stage w.instruction) own) (operands work)) (ap (is_misplaced f stage i) (sym is) ∙ rules.1) in
      let one = not_any (λ (w : ValueId). is_not_lower (stage w.instruction) own) (operands work) placed.1 v e in
      ltb-true other own (not-false (nat_lt other own) (ap (λ o. is_not_lower o own) (sym at) ∙ one))

  -- and is read
  read : (i own : ℕ) → i < length f.code → stage i ≡ Some own → (v : ValueId) → is_among v (operands (step_at f i).work) ≡ true → is_read_after f split v ≡ true
  read i own lt is v e =
      or_left (is_read_by f (is_post split) v) (is_among v (f.send ∷ f.port ∷ []) || list_any (λ (w : FieldValue). is_value v w.value) (post_fields f split))
      (any_at (length f.code) i (λ j. is_post split j && is_among v (operands (step_at f j).work)) lt
      (and_from (is_post split i) (is_among v (operands (step_at f i).work)) (ap is_some is) e))

  there : (i own : ℕ) → stage i ≡ Some own → i < length f.code
  there i own is = ⊎_elim (λ lt. lt) (λ le. absurd (none-some own (sym (within i le) ∙ is))) (cases_lt i (length f.code))

  module _ (tables : Store) (packet : Packet) (g h : Reading) (given : (v : ValueId) → is_post split v.instruction ≡ false → is_read_after f split v ≡ true → g v ≡ h v) where
    abbrev G : ℕ → Reading
    G = done_below f stage g tables packet

    abbrev H : ℕ → Reading
    H = done_below f stage h tables packet

    abbrev made_of : Reading → ValueId → ℕ
    made_of r v = slice_index (results r false tables packet (step_at f v.instruction).work) v.result

    -- an instruction gives the same where what it reads is the same
    made_alike : (t : ℕ) → ((w : ValueId) → is_read_after f split w ≡ true → IsBelow t w → G t w ≡ H t w)
        → (v : ValueId) → stage v.instruction ≡ Some t → made_of (G t) v ≡ made_of (H t) v
    made_alike t before v is =
        let work = (step_at f v.instruction).work in
        let lt = there v.instruction t is in
        ap (λ rs. slice_index rs v.result)
        (readings_that_agree-results (G t) (H t) false tables packet work
        (readings_that_agree-operands (G t) (H t) work
        (each_among (Same (G t) (H t)) (operands work) (λ w e. before w (read v.instruction t lt is w e) (lower v.instruction t lt is w e)))))

    first_alike : (v : ValueId) (o : Option ℕ) → stage v.instruction ≡ o → is_read_after f split v ≡ true → IsBelow zero v → g v ≡ h v
    first_alike v None is reads low = given v (ap is_some is) reads
    first_alike v (Some own) is reads low = absurd (omega (arith, low own is))

    is_own : (o : Option ℕ) (t : ℕ) → is_stage o t ≡ true → o ≡ Some t
    is_own None t e = absurd (false≢true e)
    is_own (Some own) t e = ap Some (eqb-true own t e)

    less : (o : Option ℕ) (t own : ℕ) → is_stage o t ≡ false → o ≡ Some own → own < suc t → own < t
    less o t own other is lt =
        ⊎_elim
        (λ same. absurd (true≢false (sym (ap (λ p. is_stage p t) is ∙ eq-eqb own t same) ∙ other)))
        (λ below. below)
        (eq-or-lt_of_le {n = own} {m = t} (omega (arith, lt)))

    alike : (t : ℕ) (v : ValueId) → is_read_after f split v ≡ true → IsBelow t v → G t v ≡ H t v
    alike zero v reads low = first_alike v (stage v.instruction) refl reads low
    alike (suc t) v reads low =
        let own = is_stage (stage v.instruction) t in
        ⊎_elim
        (λ yes. cond-true own (made_of (G t) v) (G t v) yes
        ∙ made_alike t (alike t) v (is_own (stage v.instruction) t yes)
        ∙ sym (cond-true own (made_of (H t) v) (H t v) yes))
        (λ no. cond-false own (made_of (G t) v) (G t v) no
        ∙ alike t v reads (λ other is. less (stage v.instruction) t other no is (low other is))
        ∙ sym (cond-false own (made_of (H t) v) (H t v) no))
        (cases_Bool own)

    used : (b r : Bool) → b ≡ false → (b || r) ≡ true → r ≡ true
    used b r isnt e = sym (ap (λ x. x || r) isnt) ∙ e

    pass_case : (v : ValueId) (o : Option ℕ) → stage v.instruction ≡ o → is_used_after f split v ≡ true
        → value_from o f stage g tables packet v ≡ value_from o f stage h tables packet v
    pass_case v None is e = given v (ap is_some is) (used (is_post split v.instruction) (is_read_after f split v) (ap is_some is) e)
    pass_case v (Some own) is e = made_alike own (alike own) v is

    pub pass_alike : (v : ValueId) → is_used_after f split v ≡ true → pass f stage g tables packet v ≡ pass f stage h tables packet v
    pass_alike v e = pass_case v (stage v.instruction) refl e

-- ## What the pass reads at its end

module _ (f : Program) (split : List Part) where
  pub send_used : is_used_after f split f.send ≡ true
  send_used =
      let out = is_among f.send (f.send ∷ f.port ∷ []) in
      let fields = list_any (λ (w : FieldValue). is_value f.send w.value) (post_fields f split) in
      or_right (is_post split f.send.instruction) (is_read_after f split f.send)
      (or_right (is_read_by f (is_post split) f.send) (out || fields)
      (or_left out fields (or_left (is_value f.send f.send) (is_among f.send (f.port ∷ [])) (value_same f.send f.send refl))))

  pub port_used : is_used_after f split f.port ≡ true
  port_used =
      let out = is_among f.port (f.send ∷ f.port ∷ []) in
      let fields = list_any (λ (w : FieldValue). is_value f.port w.value) (post_fields f split) in
      or_right (is_post split f.port.instruction) (is_read_after f split f.port)
      (or_right (is_read_by f (is_post split) f.port) (out || fields)
      (or_left out fields (or_right (is_value f.port f.send) (is_among f.port (f.port ∷ []))
      (or_left (is_value f.port f.port) (is_among f.port []) (value_same f.port f.port refl)))))

  pub fields_alike : (r r' : Reading) (bytes : List ℕ) → ((v : ValueId) → is_used_after f split v ≡ true → r v ≡ r' v) → with_writes (post_fields f split) r bytes ≡ with_writes (post_fields f split) r' bytes
  fields_alike r r' bytes same =
      writes_alike r r' (post_fields f split) bytes
      (each_filter (λ (w : FieldValue). r w.value ≡ r' w.value) (λ (w : FieldValue). is_post split w.value.instruction) f.fields
      (each_all (λ (w : FieldValue). is_post split w.value.instruction ≡ true → r w.value ≡ r' w.value) (λ w is. same w.value (or_left (is_post split w.value.instruction) (is_read_after f split w.value) is)) f.fields))
