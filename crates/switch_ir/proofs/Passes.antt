-- The instructions of a pass compute it, stage by stage.
use Rattle.std.proofs.Common.{◌≡◌, ℕ, zero, suc, ◌==◌, ◌<◌, ◌≤◌, Bool, true, false, ◌&&◌, List, [], ◌++◌, length, Option, Some, None, refl, sym, ap, ◌∙◌, arith, ⊎_elim, ◌⊎◌, inl, inr, slice_index, if◌then◌else◌}
use Rattle.std.proofs.lemmas.Bool.{cond-true, cond-false, cases_Bool, cases_lt, cases_eq, eq-eqb, ne_eqb, and_left, and_right, and_from, false≢true}
use Rattle.std.proofs.lemmas.List.{append-nil, append_assoc}
use Rattle.std.proofs.Math.Nat.{eq-or-lt_of_le}
use Rattle.packet_fields.specs.declared.packet.Packet.{Packet}
use Rattle.state_store.specs.Store.{Store}
use Rattle.flat_ir.specs.declared.program.ValueId.{ValueId}
use Rattle.flat_ir.specs.Program.{Program, step_at}
use Rattle.flat_ir.specs.Blocks.{Reading}
use Rattle.flat_ir.specs.Run.{results}
use Rattle.split_model.specs.Counts.{stage_or_zero}
use Rattle.split_model.specs.Passes.{is_stage, done_below, pass}
use Rattle.split_model.proofs.Laws.{a_pass_is_done_by_stages}
use Rattle.switch_ir.specs.Code.{Step}
use Rattle.switch_ir.specs.Emitted.{placed, steps_below, steps_of, highest_of}
use Rattle.switch_ir.specs.Meaning.{after_stage, after_stages}

-- ## One stage

module _ (f : Program) (stage : ℕ → Option ℕ) (t : ℕ) (reads : Reading) (tables : Store) (packet : Packet) (v : ValueId) where
  abbrev pub made : ℕ
  made = slice_index (results reads false tables packet (step_at f v.instruction).work) v.result

  abbrev from : List Step → ℕ
  from steps = after_stage steps t reads tables packet v

  abbrev is_own : ℕ → Bool
  is_own i = is_stage (stage i) t

  skipped : (n : ℕ) (o : Option ℕ) (ys : List Step) → (n ≡ v.instruction → is_stage o t ≡ false) → from (placed f n o ++ ys) ≡ from ys
  skipped n None ys other = refl
  skipped n (Some own) ys other =
      let mine = slice_index (results reads false tables packet (step_at f n).work) v.result in
      cond-false (own == t && n == v.instruction) mine (from ys)
      (⊎_elim
      (λ same. and_left (own == t) (n == v.instruction) (other same))
      (λ ne. and_right (own == t) (n == v.instruction) (ne_eqb n v.instruction ne))
      (cases_eq n v.instruction))

  taken : (n : ℕ) (o : Option ℕ) (ys : List Step) → n ≡ v.instruction → is_stage o t ≡ true → from (placed f n o ++ ys) ≡ made
  taken n None ys same own = absurd (false≢true own)
  taken n (Some at) ys same own =
      let mine = slice_index (results reads false tables packet (step_at f n).work) v.result in
      cond-true (at == t && n == v.instruction) mine (from ys)
      (and_from (at == t) (n == v.instruction) own (eq-eqb n v.instruction same))
      ∙ ap (λ i. slice_index (results reads false tables packet (step_at f i).work) v.result) same

  -- the instruction comes later, or has another stage
  abbrev IsOther : ℕ → Type 0
  IsOther n = (n ≤ v.instruction) ⊎ (is_own v.instruction ≡ false)

  earlier : (n : ℕ) → IsOther (suc n) → IsOther n
  earlier n other = ⊎_elim (λ le. inl (omega (arith, le))) (λ not. inr not) other

  not_at : (n : ℕ) → IsOther (suc n) → n ≡ v.instruction → is_own n ≡ false
  not_at n other same = ⊎_elim (λ le. absurd (omega (arith, le, same))) (λ not. ap is_own same ∙ not) other

  others : (n : ℕ) (ys : List Step) → IsOther n → from (steps_below f stage n ++ ys) ≡ from ys
  others zero ys other = refl
  others (suc n) ys other =
      ap from (append_assoc (steps_below f stage n) (placed f n (stage n)) ys)
      ∙ others n (placed f n (stage n) ++ ys) (earlier n other)
      ∙ skipped n (stage n) ys (not_at n other)

  own : (n : ℕ) (ys : List Step) → v.instruction < n → is_own v.instruction ≡ true → from (steps_below f stage n ++ ys) ≡ made
  own zero ys lt here = absurd (omega (arith, lt))
  own (suc n) ys lt here =
      ap from (append_assoc (steps_below f stage n) (placed f n (stage n)) ys)
      ∙ ⊎_elim
      (λ same. others n (placed f n (stage n) ++ ys) (inl (omega (arith, same))) ∙ taken n (stage n) ys (sym same) (ap is_own (sym same) ∙ here))
      (λ less. own n (placed f n (stage n) ++ ys) less here)
      (eq-or-lt_of_le {n = v.instruction} {m = n} (omega (arith, lt)))

  -- an instruction of the stage gives its results, and all else stays
  pub one_stage : v.instruction < length f.code → from (steps_of f stage) ≡ (if is_own v.instruction then made else reads v)
  one_stage lt =
      ap from (sym (append-nil (steps_of f stage)))
      ∙ ⊎_elim
      (λ yes. own (length f.code) [] lt yes ∙ sym (cond-true (is_own v.instruction) made (reads v) yes))
      (λ no. others (length f.code) [] (inr no) ∙ sym (cond-false (is_own v.instruction) made (reads v) no))
      (cases_Bool (is_own v.instruction))

  pub past_stage : length f.code ≤ v.instruction → from (steps_of f stage) ≡ reads v
  past_stage le = ap from (sym (append-nil (steps_of f stage))) ∙ others (length f.code) [] (inl le)

-- ## All stages

abbrev pub IsWithin : Program → (ℕ → Option ℕ) → Type 0
IsWithin f stage = (i : ℕ) → length f.code ≤ i → stage i ≡ None

pub highest_is : (stage : ℕ → Option ℕ) (n i own : ℕ) → i < n → stage i ≡ Some own → own ≤ highest_of stage n
highest_is stage zero i own lt at = absurd (omega (arith, lt))
highest_is stage (suc n) i own lt at =
    ⊎_elim
    (λ same. let last : stage_or_zero (stage n) ≡ own = ap (λ j. stage_or_zero (stage j)) (sym same) ∙ ap stage_or_zero at in omega (arith, last))
    (λ less. let before = highest_is stage n i own less at in omega (arith, before))
    (eq-or-lt_of_le {n = i} {m = n} (omega (arith, lt)))

module _ (f : Program) (stage : ℕ → Option ℕ) (within : IsWithin f stage) (given : Reading) (tables : Store) (packet : Packet) where
  stage_so : (t : ℕ) (reads : Reading) (v : ValueId)
      → after_stage (steps_of f stage) t reads tables packet v ≡ (if is_stage (stage v.instruction) t then made f stage t reads tables packet v else reads v)
  stage_so t reads v =
      ⊎_elim
      (λ lt. one_stage f stage t reads tables packet v lt)
      (λ le. past_stage f stage t reads tables packet v le
      ∙ sym (cond-false (is_stage (stage v.instruction) t) (made f stage t reads tables packet v) (reads v) (ap (λ o. is_stage o t) (within v.instruction le))))
      (cases_lt v.instruction (length f.code))

  stages_so : (t : ℕ) (v : ValueId) → after_stages (steps_of f stage) given tables packet t v ≡ done_below f stage given tables packet t v
  stages_so zero v = refl
  stages_so (suc t) v =
      let same : after_stages (steps_of f stage) given tables packet t ≡ done_below f stage given tables packet t = λ i. λ w. stages_so t w i in
      stage_so t (after_stages (steps_of f stage) given tables packet t) v
      ∙ ap (λ (r : Reading). if is_stage (stage v.instruction) t then made f stage t r tables packet v else r v) same

  is_below : (v : ValueId) (own : ℕ) → stage v.instruction ≡ Some own → own < suc (highest_of stage (length f.code))
  is_below v own at =
      ⊎_elim
      (λ lt. let low = highest_is stage (length f.code) v.instruction own lt at in omega (arith, low))
      (λ le. let none : None ≡ Some own = sym (within v.instruction le) ∙ at in cc)
      (cases_lt v.instruction (length f.code))

  -- once all stages are done, so is the pass
  pub computes : (v : ValueId)
      → after_stages (steps_of f stage) given tables packet (suc (highest_of stage (length f.code))) v ≡ pass f stage given tables packet v
  computes v =
      let t : ℕ = suc (highest_of stage (length f.code)) in
      stages_so t v ∙ a_pass_is_done_by_stages f stage given tables packet t v (is_below v)
