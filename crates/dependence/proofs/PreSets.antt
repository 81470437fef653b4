-- A scan in rising order: the marks so far are closed, and every closed list of marks lies within them so far.
use Rattle.std.proofs.Common.{◌≡◌, ℕ, ◌+◌, ◌<◌, Bool, true, false, ◌&&◌, List, [], ◌∷◌, ◌++◌, inl, inr, refl, sym, ap, ◌∙◌, subst, arith, length}
use Rattle.std.specs.Prelude.{slice_get, slice_index_or, nat_lt, not, IsTrue}
use Rattle.std.proofs.lemmas.Bool.{cases_lt, and_from, and_parts, lt-ltb, ltb-true, not-true, not_from_false}
use Rattle.std.proofs.lemmas.Option.{same_Some, slice_get_within}
use Rattle.std.proofs.lemmas.List.{length_push}
use Rattle.flat_ir.specs.declared.program.ValueId.{ValueId}
use Rattle.flat_ir.specs.Program.{Program, Step, Work, operands}
use Rattle.flat_ir.specs.Program.Work.{select}
use Rattle.flat_ir.specs.Kinds.{needed, fits_switch, is_mutable_look}
use Rattle.flat_ir.specs.Sets.{Reads, IsMarked, IsAt, IsPreClosed, IsCarriedClosed, IsGreatest}
use Rattle.dependence.specs.Placed.{IsPlaced}
use Rattle.dependence.specs.Marked.{are_marked}
use Rattle.dependence.proofs.MarkedPlaces.{marked_push_old, marked_push_cases, marked_push_last, all_read, read_all}

-- what may be in the set by itself, and what it wants of its operands
pub record IsClosed (f : Program) (May : ℕ → Type 0) (wants : Step → List ValueId) (marks : List Bool) : Type 0 where
  pub may : (i : ℕ) → IsMarked marks i → May i
  pub wanted : (i j : ℕ) (one : Step) → IsMarked marks i → IsAt f i one → Reads (wants one) j → IsMarked marks j

pub record IsSoFar (f : Program) (May : ℕ → Type 0) (wants : Step → List ValueId) (i : ℕ) (marks : List Bool) : Type 0 where
  pub count : length marks ≡ i
  pub closed : IsClosed f May wants marks
  pub greatest : (others : List Bool) → IsClosed f May wants others → (j : ℕ) → j < i → IsMarked others j → IsMarked marks j

pub none_so_far : (f : Program) (May : ℕ → Type 0) (wants : Step → List ValueId) → IsSoFar f May wants 0 []
none_so_far f May wants = record {
  count = refl;
  closed = record { may = λ i h. absurd (cc); wanted = λ i j one h at r. cc };
  greatest = λ others c j l h. absurd (omega arith);
}

pub more_so_far : (f : Program) (May : ℕ → Type 0) (wants : Step → List ValueId) (i : ℕ) (one : Step) (marks : List Bool) (mark : Bool)
    → IsAt f i one → ((j : ℕ) → Reads (wants one) j → j < i)
    → (mark ≡ true → May i × (are_marked marks (wants one) ≡ true))
    → (May i → are_marked marks (wants one) ≡ true → mark ≡ true)
    → IsSoFar f May wants i marks → IsSoFar f May wants (i + 1) (marks ++ mark ∷ [])
more_so_far f May wants i one marks mark here before sound complete so = record {
  count = length_push marks mark ∙ ap (λ n. n + 1) so.count;
  closed = record {
    may = λ j h. elim (marked_push_cases marks mark j h) [
      | inl p ↦ so.closed.may j p
      | inr q ↦ subst May (sym (q.0 ∙ so.count)) (sound q.1).0
    ];
    wanted = λ j l other h at r. marked_push_old marks mark l (elim (marked_push_cases marks mark j h) [
      | inl p ↦ so.closed.wanted j l other p at r
      | inr q ↦
          let same : other ≡ one = same_Some other one (sym at ∙ ap (λ n. slice_get f.code n) (q.0 ∙ so.count) ∙ here) in
          all_read marks (wants one) (sound q.1).1 l (subst (λ x. Reads (wants x) l) same r)
    ]);
  };
  greatest = λ others c j l h. elim (cases_lt j i) [
    | inl lt ↦ marked_push_old marks mark j (so.greatest others c j lt h)
    | inr ge ↦
        let is : j ≡ i = omega arith in
        let here' : IsMarked others i = subst (IsMarked others) is h in
        let all : are_marked marks (wants one) ≡ true =
        read_all marks (wants one) (λ a r. so.greatest others c a (before a r) (c.wanted i a one here' here r)) in
        subst (IsMarked (marks ++ mark ∷ [])) (so.count ∙ sym is) (marked_push_last marks mark (complete (c.may i here') all))
  ];
}

-- what may be in the `pre` set, by its place and its kind
abbrev pub PreMay : Program → ℕ → ℕ → Type 0
PreMay f k i = (i < k) × ((one : Step) × IsAt f i one × IsTrue (fits_switch one))

-- what may be carried
abbrev pub CarriedMay : Program → List Bool → ℕ → Type 0
CarriedMay f pre i = IsMarked pre i × ((one : Step) × IsAt f i one × (is_mutable_look f one.work ≡ false))

abbrev pub needed_of : Step → List ValueId
needed_of one = needed one.work

abbrev pub operands_of : Step → List ValueId
operands_of one = operands one.work

-- what an instruction needs are operands of it
pub needs_operand : (work : Work) (j : ℕ) → Reads (needed work) j → Reads (operands work) j
needs_operand (select width cond first second) j (inl e) = inl e
needs_operand (select width cond first second) j (inr r) = absurd r
needs_operand _ j r = r

pub same_instr : (f : Program) (i : ℕ) (one other : Step) → IsAt f i one → IsAt f i other → other ≡ one
same_instr f i one other h k = same_Some other one (sym k ∙ h)

pub pre_more : (f : Program) (k i : ℕ) (one : Step) (pre : List Bool) (mark : Bool) → IsPlaced f → IsAt f i one
    → mark ≡ (nat_lt i k && (fits_switch one && are_marked pre (needed one.work)))
    → IsSoFar f (PreMay f k) needed_of i pre → IsSoFar f (PreMay f k) needed_of (i + 1) (pre ++ mark ∷ [])
pre_more f k i one pre mark good here is so =
    more_so_far f (PreMay f k) needed_of i one pre mark here
    (λ j r. good.operands i j one here (needs_operand one.work j r))
    (λ h. let a = and_parts _ _ (sym is ∙ h) in let b = and_parts _ _ a.1 in ((ltb-true i k a.0, (one, here, b.0)), b.1))
    (λ m all. is ∙ and_from _ _ (lt-ltb i k m.0) (and_from _ _ (subst (λ x. fits_switch x ≡ true) (same_instr f i one m.1.0 here m.1.1) m.1.2) all))
    so

pub carried_more : (f : Program) (i : ℕ) (one : Step) (pre carried : List Bool) (mark : Bool) → IsPlaced f → IsAt f i one
    → mark ≡ (slice_index_or pre i false && (not (is_mutable_look f one.work) && are_marked carried (operands one.work)))
    → IsSoFar f (CarriedMay f pre) operands_of i carried → IsSoFar f (CarriedMay f pre) operands_of (i + 1) (carried ++ mark ∷ [])
carried_more f i one pre carried mark good here is so =
    more_so_far f (CarriedMay f pre) operands_of i one carried mark here
    (λ j r. good.operands i j one here r)
    (λ h. let a = and_parts _ _ (sym is ∙ h) in let b = and_parts _ _ a.1 in ((a.0, (one, here, not-true _ b.0)), b.1))
    (λ m all. is ∙ and_from _ _ m.0 (and_from _ _ (not_from_false _ (subst (λ x. is_mutable_look f x.work ≡ false) (same_instr f i one m.1.0 here m.1.1) m.1.2)) all))
    so

pub pre_done : (f : Program) (k : ℕ) (pre : List Bool) → IsSoFar f (PreMay f k) needed_of (length f.code) pre → IsGreatest f (IsPreClosed f k) pre
pre_done f k pre so = record {
  count = so.count;
  closed = record { below = λ i h. (so.closed.may i h).0; kinds = λ i h. (so.closed.may i h).1; needs = so.closed.wanted };
  greatest = λ others c i h.
      let e = c.kinds i h in
      so.greatest others (record { may = λ j m. (c.below j m, c.kinds j m); wanted = c.needs }) i (slice_get_within f.code i e.0 e.1) h;
}

pub carried_done : (f : Program) (pre carried : List Bool) → IsSoFar f (CarriedMay f pre) operands_of (length f.code) carried → IsGreatest f (IsCarriedClosed f pre) carried
carried_done f pre carried so = record {
  count = so.count;
  closed = record { within = λ i h. (so.closed.may i h).0; looks = λ i h. (so.closed.may i h).1; operands = so.closed.wanted };
  greatest = λ others c i h.
      let e = c.looks i h in
      so.greatest others (record { may = λ j m. (c.within j m, c.looks j m); wanted = c.operands }) i (slice_get_within f.code i e.0 e.1) h;
}
