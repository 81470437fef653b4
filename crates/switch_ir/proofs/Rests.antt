-- Work is left where a block is live that holds some of it.
use Rattle.std.proofs.Common.{◌≡◌, ℕ, zero, suc, ◌==◌, Bool, true, false, not, ◌&&◌, ◌||◌, List, [], ◌∷◌, ◌++◌, length, refl, sym, ap, ◌∙◌, ⊎_elim, if◌then◌else◌}
use Rattle.std.proofs.lemmas.Bool.{or_cases, or_left, or_right, eqb-true, false≢true}
use Rattle.std.proofs.lemmas.List.Folds.{list_any-append}
use Rattle.std.specs.List.{list_any}
use Rattle.flat_ir.specs.Program.{Program, step_at}
use Rattle.split_model.specs.declared.split.Part.{Part}
use Rattle.split_model.specs.Split.{is_pre, any_below, any_step}
use Rattle.switch_ir.specs.Emitted.{is_among, rest_below}
use Rattle.lemmas.proofs.Tests.{or_false}

settled : (x y : Bool) → (y ≡ true → x ≡ true) → x ≡ (x || y)
settled x true so = so refl ∙ sym (or_right x true refl)
settled x false so = sym (or_false x)

module _ (test : ℕ → Bool) where
  among_some : (b : ℕ) (bs : List ℕ) → is_among b bs ≡ true → test b ≡ true → list_any test bs ≡ true
  among_some b [] e passes = absurd (false≢true e)
  among_some b (c ∷ cs) e passes =
      ⊎_elim
      (λ same. or_left (test c) (list_any test cs) (ap test (eqb-true c b same) ∙ passes))
      (λ later. or_right (test c) (list_any test cs) (among_some b cs later passes))
      (or_cases (c == b) (is_among b cs) e)

  one_more : (b : ℕ) (bs : List ℕ) (outside among : Bool) → is_among b bs ≡ among
      → list_any test (if outside && not among then bs ++ b ∷ [] else bs) ≡ (list_any test bs || (outside && test b))
  one_more b bs false among e = sym (or_false (list_any test bs))
  one_more b bs true false e = list_any-append test bs (b ∷ []) ∙ ap (λ x. list_any test bs || x) (or_false (test b))
  one_more b bs true true e = settled (list_any test bs) (test b) (among_some b bs e)

  abbrev is_left : Program → List Part → ℕ → Bool
  is_left f split i = not (is_pre split i) && test (step_at f i).block

  left_below : (f : Program) (split : List Part) (n : ℕ) → list_any test (rest_below f split n) ≡ any_below n (is_left f split)
  left_below f split zero = refl
  left_below f split (suc n) =
      let b : ℕ = (step_at f n).block in
      one_more b (rest_below f split n) (not (is_pre split n)) (is_among b (rest_below f split n)) refl
      ∙ ap (λ x. x || is_left f split n) (left_below f split n)

  -- a block of the rest passes a test where that of an instruction outside `pre` does
  pub rest_passes : (f : Program) (split : List Part) → list_any test (rest_below f split (length f.code)) ≡ any_step f (is_left f split)
  rest_passes f split = left_below f split (length f.code)
