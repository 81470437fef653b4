-- The sets of preprocessing on one instruction fewer.
use Rattle.std.proofs.Common.{◌≡◌, ℕ, suc, ◌<◌, Bool, false, get_or, List, [], ◌∷◌, inl, inr, refl, sym, ap, ◌∙◌, subst, arith}
use Rattle.std.specs.Prelude.{slice_index, slice_index_or, slice_set, if◌then◌else◌}
use Rattle.std.specs.List.{AllByRecursion as Each}
use Rattle.std.proofs.lemmas.Bool.{cases_eq, false_from_ne_true}
use Rattle.std.proofs.lemmas.List.{get_or-set_other}
use Rattle.std.proofs.lemmas.Option.{slice_get_within}
use Rattle.flat_ir.specs.declared.program.ValueId.{ValueId}
use Rattle.flat_ir.specs.Program.{Program, Step, operands}
use Rattle.flat_ir.specs.Kinds.{is_input}
use Rattle.flat_ir.specs.WellFormed.{IsWellFormed}
use Rattle.flat_ir.specs.Sets.{IsMarked, IsAt, Reads, IsPreClosed, IsCarriedClosed, IsGreatest}
use Rattle.flat_ir.specs.Stages.{IsDepths, deepest, depth_of}
use Rattle.split_model.specs.declared.split.Part.{Part}
use Rattle.split_model.specs.Greatest.{pre_marks, IsGreatestSplit}
use Rattle.dependence.proofs.PlacedCode.{each_read, step_there}
use Rattle.dependence.proofs.PreSets.{needs_operand}
use Rattle.lemmas.proofs.Lists.{length_slice_set}

-- ## One mark less

none_at : {X : Type 0} (d : X) (xs : List X) (k : ℕ) → get_or (slice_set xs k d) k d ≡ d
none_at d (x ∷ xs) (suc k) = none_at d xs k
none_at d _ _ = refl

-- what is still marked was marked, and isn't this one
still : (xs : List Bool) (k i : ℕ) → IsMarked (slice_set xs k false) i → IsMarked xs i × (i ≡ k → ⊥)
still xs k i m =
    let apart : i ≡ k → ⊥ = λ e. (let n = none_at false xs k in let o = ap (λ j. slice_index_or (slice_set xs k false) j false) e in cc) in
    (sym (get_or-set_other xs k i false false apart) ∙ m, apart)

stays : (xs : List Bool) (k i : ℕ) → IsMarked xs i → (i ≡ k → ⊥) → IsMarked (slice_set xs k false) i
stays xs k i m h = get_or-set_other xs k i false false h ∙ m

-- ## Operands stand before what reads them

before : (f : Program) → IsWellFormed f → (i j : ℕ) (one : Step) → IsAt f i one → Reads (operands one.work) j → j < i
before f well i j one at r =
    each_read (λ n. n < i) (operands one.work)
    (subst (λ (s : Step). Each (λ v. v.instruction < i) (operands s.work)) (step_there f i one at) (well.after_operands i (slice_get_within f.code i one at))) j r

-- ## The sets on one instruction fewer

more : (f : Program) (k : ℕ) (others : List Bool) → IsPreClosed f k others → IsPreClosed f (suc k) others
more f k others closed = record {
  below = λ i m. (let l = closed.below i m in omega (arith, l));
  kinds = closed.kinds;
  needs = closed.needs;
}

fewer : (f : Program) (k : ℕ) (others : List Bool) → slice_index_or others k false ≡ false → IsPreClosed f (suc k) others → IsPreClosed f k others
fewer f k others out closed = record {
  below = λ i m.
      let l = closed.below i m in
      let apart : i ≡ k → ⊥ = λ e. (let o = ap (λ j. slice_index_or others j false) e in cc) in
      omega (arith, l, apart);
  kinds = closed.kinds;
  needs = closed.needs;
}

module _ (f : Program) (well : IsWellFormed f) (k : ℕ) (pre carried : List Bool) (depths : List ℕ)
    (old : IsGreatest f (IsPreClosed f (suc k)) pre) (handed : IsGreatest f (IsCarriedClosed f pre) carried) (deep : IsDepths f pre depths) where
  -- what is left stands below k
  left_below : (i : ℕ) → IsMarked (slice_set pre k false) i → i < k
  left_below i m =
      let s = still pre k i m in
      omega (arith, old.closed.below i s.0, s.1)

  pub pre_left : IsGreatest f (IsPreClosed f k) (slice_set pre k false)
  pre_left = record {
    count = length_slice_set pre k false ∙ old.count;
    closed = record {
      below = left_below;
      kinds = λ i m. old.closed.kinds i (still pre k i m).0;
      needs = λ i j one m at r.
          let l = left_below i m in
          let b = before f well i j one at (needs_operand one.work j r) in
          stays pre k j (old.closed.needs i j one (still pre k i m).0 at r) (λ e. omega (arith, l, b, e));
    };
    greatest = λ others closed i m.
        let l = closed.below i m in
        stays pre k i (old.greatest others (more f k others closed) i m) (λ e. omega (arith, l, e));
  }

  pub carried_left : IsGreatest f (IsCarriedClosed f (slice_set pre k false)) (slice_set carried k false)
  carried_left = record {
    count = length_slice_set carried k false ∙ handed.count;
    closed = record {
      within = λ i m. let s = still carried k i m in stays pre k i (handed.closed.within i s.0) s.1;
      looks = λ i m. handed.closed.looks i (still carried k i m).0;
      operands = λ i j one m at r.
          let s = still carried k i m in
          let l = left_below i (stays pre k i (handed.closed.within i s.0) s.1) in
          let b = before f well i j one at r in
          stays carried k j (handed.closed.operands i j one s.0 at r) (λ e. omega (arith, l, b, e));
    };
    greatest = λ others closed i m.
        let in_old : IsCarriedClosed f pre others = record {
          within = λ j n. (still pre k j (closed.within j n)).0;
          looks = closed.looks;
          operands = closed.operands;
        } in
        stays carried k i (handed.greatest others in_old i m) (still pre k i (closed.within i m)).1;
  }

  same_deepest : (vs : List ValueId) → ((j : ℕ) → Reads vs j → j ≡ k → ⊥) → deepest (slice_set pre k false) (slice_set depths k 0) vs ≡ deepest pre depths vs
  same_deepest [] h = refl
  same_deepest (v ∷ vs) h =
      let m = get_or-set_other pre k v.instruction false false (h v.instruction (inl refl)) in
      let n = get_or-set_other depths k v.instruction 0 0 (h v.instruction (inl refl)) in
      let r = same_deepest vs (λ j q. h j (inr q)) in
      rw (m, n, r) refl

  same_depth : (one : Step) → ((j : ℕ) → Reads (operands one.work) j → j ≡ k → ⊥) → depth_of (slice_set pre k false) (slice_set depths k 0) one ≡ depth_of pre depths one
  same_depth one h = ap (λ n. if is_input one.work then 0 else suc n) (same_deepest (operands one.work) h)

  pub depths_left : IsDepths f (slice_set pre k false) (slice_set depths k 0)
  depths_left = record {
    count = length_slice_set depths k 0 ∙ deep.count;
    others = λ i out. elim (cases_eq i k) [
      | inl e ↦ ap (λ j. slice_index (slice_set depths k 0) j) e ∙ none_at 0 depths k
      | inr n ↦ get_or-set_other depths k i 0 0 n ∙ deep.others i (sym (get_or-set_other pre k i false false n) ∙ out)
    ];
    depth = λ i one m at.
        let s = still pre k i m in
        let l = left_below i m in
        get_or-set_other depths k i 0 0 s.1 ∙ deep.depth i one s.0 at
        ∙ sym (same_depth one (λ j r e. let b = before f well i j one at r in omega (arith, l, b, e)));
  }

  -- where preprocessing hasn't instruction k, the greatest splits are the same
  pub as_with : slice_index_or pre k false ≡ false → (all : Bool) (split : List Part) → IsGreatestSplit f k all split → IsGreatestSplit f (suc k) all split
  as_with out all split is = record {
    pre = record {
      count = is.pre.count;
      closed = more f k (pre_marks split) is.pre.closed;
      greatest = λ others closed. is.pre.greatest others (fewer f k others (false_from_ne_true (slice_index_or others k false) (λ m. let p = old.greatest others closed k m in cc)) closed);
    };
    carried = is.carried;
    post = is.post;
    pre_depths = is.pre_depths;
    post_depths = is.post_depths;
  }

  pub as_without : slice_index_or pre k false ≡ false → (all : Bool) (split : List Part) → IsGreatestSplit f (suc k) all split → IsGreatestSplit f k all split
  as_without out all split is = record {
    pre = record {
      count = is.pre.count;
      closed = fewer f k (pre_marks split) (false_from_ne_true (slice_index_or (pre_marks split) k false) (λ m. let p = old.greatest (pre_marks split) is.pre.closed k m in cc)) is.pre.closed;
      greatest = λ others closed. is.pre.greatest others (more f k others closed);
    };
    carried = is.carried;
    post = is.post;
    pre_depths = is.pre_depths;
    post_depths = is.post_depths;
  }
