-- Serial runs of programs that mean the same.
use Rattle.std.proofs.Common.{◌≡◌, ℕ, ◌<◌, true, cond, eqb, zero, suc, List, [], ◌∷◌, Some, inl, inr, refl, ap, subst, ◌∙◌, arith, length}
use Rattle.std.specs.Prelude.{slice_get, is_some, ⊤}
use Rattle.std.proofs.lemmas.Bool.{cases_Bool, eq-eqb}
use Rattle.state_store.specs.Kept.{IsKept}
use Rattle.state_store.specs.Store.{Store, start_store, object_at, rows_of}
use Rattle.run_model.specs.declared.fate.Fate.{Fate}
use Rattle.run_model.specs.declared.run.Run.{Run}
use Rattle.run_model.specs.Meaning.{Meaning, AreAlike, serial_store, serial_verdicts}
use Rattle.run_model.specs.Parts.{parts_of}
use Rattle.run_model.specs.Serialises.{Serialises, AllReleased, IsDrained, decided_at, times, run_store, run_verdicts}

-- each number is below
abbrev Below : ℕ → List ℕ → Type 0
Below total [] = ⊤
Below total (p ∷ ps) = (p < total) × Below total ps

same_store : (m n : Meaning) (total : ℕ) (ps : List ℕ) (store : Store) → AreAlike m n total → IsKept m.objects store → Below total ps → serial_store m store ps ≡ serial_store n store ps
same_store m n total [] store alike kept low = refl
same_store m n total (p ∷ ps) store alike kept low =
    same_store m n total ps (m.after store p) alike (alike.kept store p kept low.0) low.1
    ∙ ap (λ a. serial_store n a ps) (alike.after store p kept low.0)

same_verdicts : (m n : Meaning) (total : ℕ) (ps : List ℕ) (store : Store) → AreAlike m n total → IsKept m.objects store → Below total ps → serial_verdicts m store ps ≡ serial_verdicts n store ps
same_verdicts m n total [] store alike kept low = refl
same_verdicts m n total (p ∷ ps) store alike kept low =
    let rest = same_verdicts m n total ps (m.after store p) alike (alike.kept store p kept low.0) low.1
    ∙ ap (λ a. serial_verdicts n a ps) (alike.after store p kept low.0) in
    λ i. alike.verdict store p kept low.0 i ∷ rest i

-- a number of the order is that of an admitted packet, and so is each
decided_within : (fates : List Fate) (p : ℕ) → is_some (decided_at (slice_get fates p)) ≡ true → p < length fates
decided_within [] p h = cc
decided_within (f ∷ fs) zero h = omega arith
decided_within (f ∷ fs) (suc p) h = let r = decided_within fs p h in omega arith

once_within : (fates : List Fate) (p t : ℕ) → t ≡ cond (is_some (decided_at (slice_get fates p))) 1 0 → 0 < t → p < length fates
once_within fates p t is some = elim (cases_Bool (is_some (decided_at (slice_get fates p)))) [
  | inl d ↦ decided_within fates p d
  | inr none ↦ absurd (let low = is ∙ ap (λ b. cond b 1 0) none in omega arith)
]

below_all : (total : ℕ) (ps : List ℕ) → ((p : ℕ) → 0 < times p ps → p < total) → Below total ps
below_all total [] h = tt
below_all total (x ∷ xs) h = (
  h x (let e = eq-eqb x x refl in rw e (omega arith)),
  below_all total xs (λ p some. h p (elim (cases_Bool (eqb x p)) [ inl t ↦ rw t (omega arith) | inr t ↦ rw t some ])),
)

module _ (m n : Meaning) (run : Run) (alike : AreAlike m n run.total) (serial : Serialises m run) where
  order_below : Below run.total run.order
  order_below = below_all run.total run.order
      (λ p some. let low = once_within run.fates p (times p run.order) (serial.once p) some in let few = serial.admitted in omega arith)

  verdicts_same : run_verdicts m run ≡ run_verdicts n run
  verdicts_same =
      same_verdicts m n run.total run.order (start_store m.objects) alike alike.start order_below
      ∙ ap (λ objects. serial_verdicts n (start_store objects) run.order) alike.objects

  left_same : run_store m run ≡ serial_store n (start_store m.objects) run.order
  left_same = same_store m n run.total run.order (start_store m.objects) alike alike.start order_below

  rows_same : parts_of m.objects (run_store m run) ≡ parts_of n.objects (run_store n run)
  rows_same =
      ap (parts_of m.objects) left_same
      ∙ ap (λ objects. parts_of objects (serial_store n (start_store objects) run.order)) alike.objects

  pub same_serialises : Serialises n run
  same_serialises = record {
    admitted = serial.admitted;
    once = serial.once;
    ascends = serial.ascends;
    rows = serial.rows ∙ rows_same;
    verdicts = λ i p r y at out. subst (λ vs. slice_get vs i ≡ Some y) verdicts_same (serial.verdicts i p r y at out);
    respects = serial.respects;
  }

  pub same_released : AllReleased m run → AllReleased n run
  same_released h = record {
    each = λ p within.
        let e = h.each p within in
        (e.0, e.1, e.2, e.3, e.4, subst (λ vs. slice_get vs e.0 ≡ Some e.2) verdicts_same e.5);
  }

  pub same_drained : IsDrained m run → IsDrained n run
  same_drained h = record {
    all = h.all;
    complete = same_released h.complete;
    shown = λ i shown here. h.shown i shown here
        ∙ ap (λ left. rows_of (object_at left shown.object))
        (left_same ∙ ap (λ objects. serial_store n (start_store objects) run.order) alike.objects);
  }
