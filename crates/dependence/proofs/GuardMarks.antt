-- From the values that decide on writes to their instructions.
use Rattle.std.proofs.Common.{◌≡◌, ℕ, zero, suc, ◌+◌, ◌<◌, ◌≤◌, Bool, true, false, List, [], ◌∷◌, inl, inr, sym, ap, ◌∙◌, subst, arith, length, get_or, take, set, replicate, length-set}
use Rattle.std.specs.Prelude.{◌==◌}
use Rattle.std.proofs.lemmas.Bool.{or_cases, or_left, or_right, and_parts, eqb-true, false≢true}
use Rattle.std.proofs.lemmas.List.{length-replicate, take_all}
use Rattle.std.proofs.lemmas.List.Folds.{list_any_more}
use Rattle.flat_ir.specs.declared.program.ValueId.{ValueId}
use Rattle.flat_ir.specs.Program.{Program, is_value, is_among}
use Rattle.flat_ir.specs.Guards.{guards_write}
use Rattle.flat_ir.specs.Sets.{IsMarked, IsGuard}
use Rattle.dependence.specs.Guards.{AreGuards}
use Rattle.dependence.proofs.MarkedPlaces.{marked_set_kept, marked_set_same, marked_set_cases, unset_marked}
use Rattle.flat_ir.proofs.Exact.{same_itself}

-- the marks are on the instructions of these values, which all decide on writes
pub record AreMarkedFor (f : Program) (values : List ValueId) (marks : List Bool) : Type 0 where
  pub count : length marks ≡ length f.code
  pub sound : (j : ℕ) → IsMarked marks j → IsGuard f j
  pub complete : (v : ValueId) → is_among v values ≡ true → IsMarked marks v.instruction

pub none_marked : (f : Program) → AreMarkedFor f [] (replicate (length f.code) false)
none_marked f = record {
  count = length-replicate (length f.code) false;
  sound = λ j h. absurd (unset_marked (length f.code) j h);
  complete = λ v h. absurd (false≢true h);
}

-- each of some values is among them
pub is_there : (vs : List ValueId) (i : ℕ) (d : ValueId) → i < length vs → is_among (get_or vs i d) vs ≡ true
is_there [] i d h = absurd (omega arith)
is_there (v ∷ vs) zero d h = or_left (is_value v v) (is_among v vs) (same_itself v)
is_there (v ∷ vs) (suc i) d h = or_right (is_value (get_or vs i d) v) (is_among (get_or vs i d) vs) (is_there vs i d (omega arith))

-- one value more
pub one_marked : (f : Program) (found : List ValueId) (i : ℕ) (d : ValueId) (marks : List Bool) → i < length found
    → guards_write f (get_or found i d) ≡ true → (get_or found i d).instruction < length f.code
    → AreMarkedFor f (take i found) marks → AreMarkedFor f (take (i + 1) found) (set marks (get_or found i d).instruction true)
one_marked f found i d marks within guards inside are =
    let value = get_or found i d in
    record {
      count = length-set marks value.instruction true ∙ are.count;
      sound = λ j h. elim (marked_set_cases marks value.instruction j h) [
        | inl p ↦ are.sound j p
        | inr q ↦ record { value = value; own = sym q; guards = guards }
      ];
      complete = λ v h. elim (or_cases (is_among v (take i found)) (is_value v value) (sym (list_any_more (is_value v) found i d within) ∙ h)) [
        | inl p ↦ marked_set_kept marks value.instruction v.instruction (are.complete v p)
        | inr q ↦
            let same : v.instruction ≡ value.instruction = eqb-true v.instruction value.instruction (and_parts (v.instruction == value.instruction) (v.result == value.result) q).0 in
            let room : value.instruction < length marks = (let c = are.count in omega arith) in
            subst (IsMarked (set marks value.instruction true)) (sym same) (marked_set_same marks value.instruction room)
      ];
    }

pub all_marked : (f : Program) (found : List ValueId) (i : ℕ) (marks : List Bool) → length found ≤ i → ((v : ValueId) → is_among v found ≡ guards_write f v)
    → AreMarkedFor f (take i found) marks → AreGuards f marks
all_marked f found i marks past exact are = record {
  count = are.count;
  sound = are.sound;
  complete = λ j g.
      subst (IsMarked marks) g.own (are.complete g.value (ap (is_among g.value) (take_all i found past) ∙ exact g.value ∙ g.guards));
}
