-- Numbers that say when values are read.
use Rattle.std.proofs.Common.{◌≡◌, ℕ, ◌+◌, ◌<◌, ◌≤◌, Bool, true, false, ◌||◌, List, ◌++◌, max, get_or, length, take, sym, ap, subst, ◌∙◌, arith}
use Rattle.std.specs.List.{list_any}
use Rattle.std.proofs.lemmas.List.{take_all}
use Rattle.std.proofs.lemmas.List.Folds.{list_any-append, list_any_more}
use Rattle.flat_ir.specs.declared.program.ValueId.{ValueId}
use Rattle.split_model.specs.Crossing.{is_value, is_among}
use Rattle.transfer_header.specs.BlockSteps.{step_if}
use Rattle.switch_ir.specs.LastReads.{AreNoted, Adds, Raises}

-- ---- numbers that say the same
pub same_last : (n : ℕ) (p q : ValueId → ℕ) (steps : List ℕ) → ((v : ValueId) → p v ≡ q v) → AreNoted n p steps → AreNoted n q steps
same_last n p q steps same are = record { count = are.count; exact = λ v i r. are.exact v i r ∙ same v }

pub step_or : (step : ℕ) (a b : Bool) → max (step_if a step) (step_if b step) ≡ step_if (a || b) step
step_or step true true = omega arith
step_or step true false = omega arith
step_or step false true = omega arith
step_or step false false = omega arith

-- ---- what is added
pub adds_none : (steps : List ℕ) → Adds (λ v. 0) steps steps
adds_none steps n last are = same_last n last (λ v. max (last v) 0) steps (λ v. omega arith) are

pub adds_as : (f g : ValueId → ℕ) (before after : List ℕ) → ((v : ValueId) → f v ≡ g v) → Adds f before after → Adds g before after
adds_as f g before after same adds n last are =
    same_last n (λ v. max (last v) (f v)) (λ v. max (last v) (g v)) after (λ v. ap (max (last v)) (same v)) (adds n last are)

pub adds_then : (f g h : ValueId → ℕ) (before now after : List ℕ) → ((v : ValueId) → max (f v) (g v) ≡ h v) → Adds f before now → Adds g now after → Adds h before after
adds_then f g h before now after same first second n last are =
    same_last n (λ v. max (max (last v) (f v)) (g v)) (λ v. max (last v) (h v)) after (λ v. omega (arith, same v)) (second n (λ v. max (last v) (f v)) (first n last are))

-- values of the same list, and of two lists
pub raises_same : (step : ℕ) (xs ys : List ValueId) (before after : List ℕ) → xs ≡ ys → Raises (λ v. is_among v xs) step before after → Raises (λ v. is_among v ys) step before after
raises_same step xs ys before after same = subst (λ l. Raises (λ v. is_among v l) step before after) same

pub raises_both : (step : ℕ) (xs ys : List ValueId) (before now after : List ℕ) → Raises (λ v. is_among v xs) step before now → Raises (λ v. is_among v ys) step now after
    → Raises (λ v. is_among v (xs ++ ys)) step before after
raises_both step xs ys before now after =
    adds_then (λ v. step_if (is_among v xs) step) (λ v. step_if (is_among v ys) step) (λ v. step_if (is_among v (xs ++ ys)) step) before now after
    (λ v. step_or step (is_among v xs) (is_among v ys) ∙ ap (λ b. step_if b step) (sym (list_any-append (is_value v) xs ys)))

-- all that is read, in turn
pub all_noted : (l e e' : ℕ) (u t o : Bool) → e ≡ e' → max (max (max (max 0 l) (step_if u e)) (step_if t e)) (step_if o e) ≡ max l (step_if (u || (t || o)) e')
all_noted l e e' u t o same = omega (arith, step_or e t o, step_or e u (t || o), ap (step_if (u || (t || o))) same)

-- ---- the values of a list, in turn
module _ {X : Type 0} (test : ValueId → X → Bool) (step : ℕ) (xs : List X) (i : ℕ) (before now : List ℕ) (so_far : Raises (λ v. list_any (test v) (take i xs)) step before now) where
  pub raises_more : (d : X) (after : List ℕ) → i < length xs → Raises (λ v. test v (get_or xs i d)) step now after → Raises (λ v. list_any (test v) (take (i + 1) xs)) step before after
  raises_more d after within next =
      adds_then (λ v. step_if (list_any (test v) (take i xs)) step) (λ v. step_if (test v (get_or xs i d)) step) (λ v. step_if (list_any (test v) (take (i + 1) xs)) step) before now after
      (λ v. step_or step (list_any (test v) (take i xs)) (test v (get_or xs i d)) ∙ ap (λ b. step_if b step) (sym (list_any_more (test v) xs i d within))) so_far next

  pub raises_all : (all : List X) → length xs ≤ i → xs ≡ all → Raises (λ v. list_any (test v) all) step before now
  raises_all all past same =
      adds_as (λ v. step_if (list_any (test v) (take i xs)) step) (λ v. step_if (list_any (test v) all) step) before now
      (λ v. ap (λ l. step_if (list_any (test v) l) step) (take_all i xs past ∙ same)) so_far
