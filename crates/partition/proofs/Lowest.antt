-- The chosen split needs no more stages than any legal one that computes the same in a pass.
use Rattle.std.proofs.Common.{◌≡◌, ℕ, zero, suc, ◌≤◌, Bool, true, false, List, [], ◌∷◌, Option, Some, None, inl, inr, refl, sym, ap, ◌∙◌, subst, arith, is_some}
use Rattle.std.specs.Prelude.{slice_index, slice_index_or}
use Rattle.std.proofs.lemmas.Bool.{or_left, or_right, false≢true}
use Rattle.std.proofs.lemmas.Option.{slice_get_within}
use Rattle.flat_ir.specs.declared.program.ValueId.{ValueId}
use Rattle.flat_ir.specs.Program.{Program, Step, step_at, operands}
use Rattle.flat_ir.specs.Kinds.{is_input}
use Rattle.flat_ir.specs.WellFormed.{IsWellFormed}
use Rattle.flat_ir.specs.Sets.{IsMarked, Reads}
use Rattle.flat_ir.specs.Stages.{IsStaged}
use Rattle.split_model.specs.declared.split.Part.{Part}
use Rattle.split_model.specs.Split.{pre_stage, post_stage}
use Rattle.split_model.specs.Counts.{stage_or_zero}
use Rattle.split_model.specs.Crossing.{is_value, is_among}
use Rattle.split_model.specs.Greatest.{pre_marks, post_marks, pre_stages, post_stages}
use Rattle.split_model.specs.Laws.{GoesByStages}
use Rattle.resource_limits.specs.declared.limits.Limits.{Limits}
use Rattle.resource_limits.specs.Counts.{greatest}
use Rattle.partition.specs.Choice.{IsChosen}
use Rattle.partition.proofs.Lawful.{pre_at, post_at, pre_stage_at, post_stage_at}
use Rattle.partition.proofs.Chosen.{chosen_is_kept}
use Rattle.dependence.proofs.PlacedCode.{step_there}
use Rattle.flat_ir.proofs.Exact.{same_itself}
use Rattle.dependence.proofs.Laws.{depths_are_least-least}

-- ## The greatest of some numbers

at_most : (ns : List ℕ) (i : ℕ) → slice_index ns i ≤ greatest ns
at_most [] i = omega arith
at_most (n ∷ ns) zero = omega arith
at_most (n ∷ ns) (suc i) = let rest = at_most ns i in omega arith

none_above : (ns : List ℕ) (most : ℕ) → ((i : ℕ) → slice_index ns i ≤ most) → greatest ns ≤ most
none_above [] most h = omega arith
none_above (n ∷ ns) most h = let first = h 0 in let rest = none_above ns most (λ i. h (suc i)) in omega arith

lower_greatest : (ns ms : List ℕ) → ((i : ℕ) → slice_index ns i ≤ slice_index ms i) → greatest ns ≤ greatest ms
lower_greatest ns ms h = none_above ns (greatest ms) (λ i. let l = h i in let m = at_most ms i in omega arith)

-- ## Stages of a pass

-- an operand that is a result of the instruction
record HasOperand (vs : List ValueId) (j : ℕ) : Type 0 where
  value : ValueId
  among : is_among value vs ≡ true
  is : value.instruction ≡ j

operand_read : (vs : List ValueId) (j : ℕ) → Reads vs j → HasOperand vs j
operand_read [] j r = absurd r
operand_read (v ∷ vs) j (inl e) = record { value = v; among = or_left (is_value v v) (is_among v vs) (same_itself v); is = e }
operand_read (v ∷ vs) j (inr r) =
    let rest = operand_read vs j r in
    record { value = rest.value; among = or_right (is_value rest.value v) (is_among rest.value vs) rest.among; is = rest.is }

some_stage : (o : Option ℕ) → is_some o ≡ true → o ≡ Some (stage_or_zero o)
some_stage None h = absurd (false≢true h)
some_stage (Some n) h = refl

module _ (f : Program) (stage : ℕ → Option ℕ) (marks : List Bool) (stages : List ℕ) (marked : (j : ℕ) → slice_index_or marks j false ≡ is_some (stage j)) (numbered : (j : ℕ) → slice_index stages j ≡ stage_or_zero (stage j)) where
  own_stage : (i : ℕ) → IsMarked marks i → stage i ≡ Some (slice_index stages i)
  own_stage i m = some_stage (stage i) (sym (marked i) ∙ m) ∙ ap Some (sym (numbered i))

  pub staged_by : GoesByStages f stage → IsStaged f marks stages
  staged_by goes = record {
    given = λ i one m at input.
        goes.inputs i (slice_index stages i) (slice_get_within f.code i one at) (own_stage i m) (subst (λ (s : Step). is_input s.work ≡ true) (sym (step_there f i one at)) input);
    later = λ i one m at input.
        goes.others i (slice_index stages i) (slice_get_within f.code i one at) (own_stage i m) (subst (λ (s : Step). is_input s.work ≡ false) (sym (step_there f i one at)) input);
    rising = λ i j one m at r n.
        let v = operand_read (operands (step_at f i).work) j (subst (λ (s : Step). Reads (operands s.work) j) (sym (step_there f i one at)) r) in
        goes.reads i (slice_index stages i) (slice_index stages j) v.value (slice_get_within f.code i one at) (own_stage i m) v.among (ap stage v.is ∙ own_stage j n);
  }

-- ## The chosen split

module _ (f : Program) (limits : Limits) (shrink : Bool) (split other : List Part) (formed : IsWellFormed f) (chosen : IsChosen f limits shrink split) where
  pub lowest_before : GoesByStages f (pre_stage other) → pre_marks other ≡ pre_marks split → greatest (pre_stages split) ≤ greatest (pre_stages other)
  lowest_before goes same =
      let kept = chosen_is_kept f limits shrink split chosen in
      let staged : IsStaged f (pre_marks split) (pre_stages other) =
      subst (λ (m : List Bool). IsStaged f m (pre_stages other)) same (staged_by f (pre_stage other) (pre_marks other) (pre_stages other) (pre_at other) (pre_stage_at other) goes) in
      lower_greatest (pre_stages split) (pre_stages other) (depths_are_least-least f (pre_marks split) (pre_stages split) (pre_stages other) formed kept.kept.greatest.pre_depths staged)

  pub lowest_after : GoesByStages f (post_stage other) → post_marks other ≡ post_marks split → greatest (post_stages split) ≤ greatest (post_stages other)
  lowest_after goes same =
      let kept = chosen_is_kept f limits shrink split chosen in
      let staged : IsStaged f (post_marks split) (post_stages other) =
      subst (λ (m : List Bool). IsStaged f m (post_stages other)) same (staged_by f (post_stage other) (post_marks other) (post_stages other) (post_at other) (post_stage_at other) goes) in
      lower_greatest (post_stages split) (post_stages other) (depths_are_least-least f (post_marks split) (post_stages split) (post_stages other) formed kept.kept.greatest.post_depths staged)
