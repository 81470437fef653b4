-- What the nine rules say of the instructions of a legal split.
use Rattle.std.proofs.Common.{◌≡◌, ℕ, zero, suc, ◌==◌, ◌<◌, Bool, true, false, not, ◌&&◌, ◌||◌, List, [], ◌∷◌, length, nat_lt, Option, Some, inl, inr, refl, sym, ap, ◌∙◌, arith}
use Rattle.std.proofs.lemmas.Bool.{false≢true, true≢false, or_parts, or_cases, cases_eq, cases_lt, eqb-true, eq-eqb, ltb-true, not-false}
use Rattle.std.specs.List.{AllByRecursion as Each, list_all, list_any}
use Rattle.flat_ir.specs.declared.program.ValueId.{ValueId}
use Rattle.flat_ir.specs.Program.{Program, Work, step_at, operands}
use Rattle.flat_ir.specs.Blocks.{line, same}
use Rattle.flat_ir.specs.Kinds.{fits_switch, can_switch, is_write, is_field, is_input, is_mutable_look}
use Rattle.flat_ir.specs.WellFormed.{EachCondition}
use Rattle.split_model.specs.declared.split.Part.{Part}
use Rattle.split_model.specs.Split.{pre_stage, post_stage, is_pre, is_carried, is_server, is_post}
use Rattle.split_model.specs.Legal.{IsLegal, is_post_condition, is_not_lower, is_misplaced}
use Rattle.split_model.specs.Crossing.{is_value, is_among}
use Rattle.split_model.specs.Laws.{GoesByStages}
use Rattle.lemmas.proofs.Lists.{each_weaker}
use Rattle.lemmas.proofs.Tests.{and_second, true_of_and_not}

-- ## Tests that hold

pub second_false : (a b : Bool) → (a && b) ≡ false → a ≡ true → b ≡ false
second_false true b e h = e
second_false false b e h = absurd (false≢true h)

pub each_true : {X : Type 0} (test : X → Bool) (xs : List X) → list_all test xs ≡ true → Each (λ x. test x ≡ true) xs
each_true test [] e = tt
each_true test (x ∷ xs) e = let parts = and_both (test x) (list_all test xs) e in (parts.0, each_true test xs parts.1)
  where
    and_both : (a b : Bool) → (a && b) ≡ true → (a ≡ true) × (b ≡ true)
    and_both true b h = (refl, h)
    and_both false b h = absurd (false≢true h)

pub each_false : {X : Type 0} (test : X → Bool) (xs : List X) → list_any test xs ≡ false → Each (λ x. test x ≡ false) xs
each_false test [] e = tt
each_false test (x ∷ xs) e = let parts = or_parts (test x) (list_any test xs) e in (parts.0, each_false test xs parts.1)

-- ## Stages

-- an operand that the same pass computes has a lower stage
abbrev pub IsLower : (ℕ → Option ℕ) → ℕ → ValueId → Type 0
IsLower stage own v = (other : ℕ) → stage v.instruction ≡ Some other → other < own

-- the stages of a pass rise
abbrev pub IsRising : Program → (ℕ → Option ℕ) → Type 0
IsRising f stage = (i own : ℕ) → i < length f.code → stage i ≡ Some own → Each (IsLower stage own) (operands (step_at f i).work)

is_lower : (stage : ℕ → Option ℕ) (own : ℕ) (v : ValueId) → is_not_lower (stage v.instruction) own ≡ false → IsLower stage own v
is_lower stage own v e other is = ltb-true other own (not-false (nat_lt other own) (ap (λ o. is_not_lower o own) (sym is) ∙ e))

rises : (f : Program) (stage : ℕ → Option ℕ) (i own : ℕ) → stage i ≡ Some own → is_misplaced f stage i (stage i) ≡ false → Each (IsLower stage own) (operands (step_at f i).work)
rises f stage i own is e =
    let work = (step_at f i).work in
    each_weaker (λ v. is_not_lower (stage v.instruction) own ≡ false) (IsLower stage own) (is_lower stage own) (operands work)
    (each_false (λ v. is_not_lower (stage v.instruction) own) (operands work)
    ((or_parts (not (same (is_input work) (own == 0))) (list_any (λ v. is_not_lower (stage v.instruction) own) (operands work)) (ap (is_misplaced f stage i) (sym is) ∙ e)).1))

same_value : (stage : ℕ → Option ℕ) (own : ℕ) (v : ValueId) (vs : List ValueId) → Each (IsLower stage own) vs → is_among v vs ≡ true → IsLower stage own v
same_value stage own v [] low h = absurd (false≢true h)
same_value stage own v (w ∷ ws) low h = elim (or_cases (is_value v w) (is_among v ws) h) [
  | inl e ↦
      let e' : v.instruction ≡ w.instruction = eqb-true v.instruction w.instruction (first_true (v.instruction == w.instruction) (v.result == w.result) e) in
      λ other is. low.0 other (ap stage (sym e') ∙ is)
  | inr r ↦ same_value stage own v ws low.1 r
]
  where
    first_true : (a b : Bool) → (a && b) ≡ true → a ≡ true
    first_true true b h = refl
    first_true false b h = h

zero_stage : (b : Bool) (own : ℕ) → same b (own == 0) ≡ true → b ≡ true → own ≡ 0
zero_stage true own h e = eqb-true own 0 h
zero_stage false own h e = absurd (false≢true e)

later_stage : (b : Bool) (own : ℕ) → same b (own == 0) ≡ true → b ≡ false → 0 < own
later_stage true own h e = absurd (true≢false e)
later_stage false own h e = elim (cases_eq own 0) [
  | inl z ↦ absurd (false≢true (ap (same false) (sym (eq-eqb own 0 z)) ∙ h))
  | inr ne ↦ elim (cases_lt 0 own) [ inl l ↦ l | inr le ↦ absurd (ne (omega arith)) ]
]

-- a pass in which no instruction is misplaced goes by stages
pub by_stages : (f : Program) (stage : ℕ → Option ℕ) → ((i : ℕ) → i < length f.code → is_misplaced f stage i (stage i) ≡ false) → GoesByStages f stage
by_stages f stage placed = record {
  inputs = λ i own within is. zero_stage (is_input (step_at f i).work) own (own_place i own within is);
  others = λ i own within is. later_stage (is_input (step_at f i).work) own (own_place i own within is);
  reads = λ i own written v within is among there.
      same_value stage own v (operands (step_at f i).work) (rises f stage i own is (placed i within)) among written there;
}
  where
    own_place : (i own : ℕ) → i < length f.code → stage i ≡ Some own → same (is_input (step_at f i).work) (own == 0) ≡ true
    own_place i own within is =
        let work = (step_at f i).work in
        not-false (same (is_input work) (own == 0))
        ((or_parts (not (same (is_input work) (own == 0))) (list_any (λ v. is_not_lower (stage v.instruction) own) (operands work)) (ap (is_misplaced f stage i) (sym is) ∙ placed i within)).0)

-- ## The rules

-- no value of postprocessing is a condition of these blocks
no_post_condition : (f : Program) (split : List Part) (k : ℕ) → is_post_condition f split k ≡ false → EachCondition f (λ c. is_post split c.instruction ≡ false) k
no_post_condition f split zero e = tt
no_post_condition f split (suc k) e = e

module _ (f : Program) (split : List Part) (legal : IsLegal f split) (i : ℕ) (within : i < length f.code) where
  abbrev work : Work
  work = (step_at f i).work

  -- preprocessing does what the switch can, from values that it has
  pub pre_kind : is_pre split i ≡ true → can_switch work ≡ true
  pre_kind pre = and_second (not (step_at f i).looped) (can_switch work) (true_of_and_not (is_pre split i) (fits_switch (step_at f i)) (legal.kept 1 i within) pre)

  -- what is carried is computed there, and hangs on no row that can change
  pub carried_pre : is_carried split i ≡ true → is_pre split i ≡ true
  carried_pre carried = true_of_and_not (is_carried split i) (is_pre split i) (legal.kept 3 i within) carried

  pub carried_look : is_carried split i ≡ true → is_mutable_look f work ≡ false
  carried_look carried = second_false (is_carried split i) (is_mutable_look f work) (legal.kept 4 i within) carried

  pub carried_operands : is_carried split i ≡ true → Each (λ v. is_carried split v.instruction ≡ true) (operands work)
  carried_operands carried =
      each_true (λ v. is_carried split v.instruction) (operands work) (true_of_and_not (is_carried split i) (list_all (λ v. is_carried split v.instruction) (operands work)) (legal.kept 5 i within) carried)

  abbrev sixth : (is_server split i && list_any (λ v. is_post split v.instruction) (operands work) ≡ false) × ((is_write work && list_any (is_post_condition f split) (line f.blocks (step_at f i).block)) ≡ false)
  sixth =
      or_parts (is_server split i && list_any (λ v. is_post split v.instruction) (operands work)) (is_write work && list_any (is_post_condition f split) (line f.blocks (step_at f i).block)) (legal.kept 6 i within)

  -- the server needs nothing that comes later
  pub server_operands : is_server split i ≡ true → Each (λ v. is_post split v.instruction ≡ false) (operands work)
  server_operands server =
      each_false (λ v. is_post split v.instruction) (operands work) (second_false (is_server split i) (list_any (λ v. is_post split v.instruction) (operands work)) sixth.0 server)

  pub write_conditions : is_write work ≡ true → Each (EachCondition f (λ c. is_post split c.instruction ≡ false)) (line f.blocks (step_at f i).block)
  write_conditions write =
      let ks = line f.blocks (step_at f i).block in
      each_weaker (λ k. is_post_condition f split k ≡ false) (EachCondition f (λ c. is_post split c.instruction ≡ false)) (no_post_condition f split) ks
      (each_false (is_post_condition f split) ks (second_false (is_write work) (list_any (is_post_condition f split) ks) sixth.1 write))

  abbrev seventh : is_post split i ≡ true → (not (fits_switch (step_at f i)) ≡ false) × ((is_mutable_look f work || is_field work) ≡ false)
  seventh post =
      or_parts (not (fits_switch (step_at f i))) (is_mutable_look f work || is_field work) (second_false (is_post split i) (not (fits_switch (step_at f i)) || (is_mutable_look f work || is_field work)) (legal.kept 7 i within) post)

  -- postprocessing does what the switch can, without the rows that can change
  pub post_kind : is_post split i ≡ true → can_switch work ≡ true
  post_kind post = and_second (not (step_at f i).looped) (can_switch work) (not-false (fits_switch (step_at f i)) (seventh post).0)

  pub post_field : is_post split i ≡ true → is_field work ≡ false
  post_field post = (or_parts (is_mutable_look f work) (is_field work) (seventh post).1).1

  pub post_look : is_post split i ≡ true → is_mutable_look f work ≡ false
  post_look post = (or_parts (is_mutable_look f work) (is_field work) (seventh post).1).0

  abbrev eighth : is_write work ≡ true → (is_pre split i ≡ false) × (not (is_server split i) ≡ false)
  eighth write = or_parts (is_pre split i) (not (is_server split i)) (second_false (is_write work) (is_pre split i || not (is_server split i)) (legal.kept 8 i within) write)

  -- the server alone writes
  pub writes_server : is_write work ≡ true → is_server split i ≡ true
  writes_server write = not-false (is_server split i) (eighth write).1

  pub writes_not_pre : is_write work ≡ true → is_pre split i ≡ false
  writes_not_pre write = (eighth write).0

  abbrev pub ninth : (is_misplaced f (pre_stage split) i (pre_stage split i) ≡ false) × (is_misplaced f (post_stage split) i (post_stage split i) ≡ false)
  ninth = or_parts (is_misplaced f (pre_stage split) i (pre_stage split i)) (is_misplaced f (post_stage split) i (post_stage split i)) (legal.kept 9 i within)

pub pre_rises : (f : Program) (split : List Part) → IsLegal f split → IsRising f (pre_stage split)
pre_rises f split legal i own within is = rises f (pre_stage split) i own is (ninth f split legal i within).0

pub post_rises : (f : Program) (split : List Part) → IsLegal f split → IsRising f (post_stage split)
post_rises f split legal i own within is = rises f (post_stage split) i own is (ninth f split legal i within).1
