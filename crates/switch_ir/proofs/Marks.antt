-- Marks of blocks.
use Rattle.std.proofs.Common.{◌≡◌, ℕ, ◌+◌, ◌==◌, ◌<◌, Bool, true, false, ◌||◌, List, [], ◌∷◌, ◌++◌, ap, sym, ◌∙◌, arith, slice_set, ⊎_elim, add-one, if◌then◌else◌}
use Rattle.std.proofs.lemmas.Bool.{cases_eq, eq-eqb, ne_eqb, or_right}
use Rattle.std.proofs.lemmas.List.{length-set, get_or-set_same, get_or-set_other}
use Rattle.std.proofs.lemmas.List.Folds.{list_any-append}
use Rattle.std.specs.Prelude.{slice_index_or, not, ◌&&◌}
use Rattle.flat_ir.specs.Program.{Program, step_at}
use Rattle.split_model.specs.declared.split.Part.{Part}
use Rattle.split_model.specs.Split.{is_pre}
use Rattle.switch_ir.specs.Emitted.{is_among, rest_below}
use Rattle.switch_ir.specs.Emitting.{AreMarks}
use Rattle.lemmas.proofs.Tests.{or_false}

among_push : (c b : ℕ) (bs : List ℕ) → is_among c (bs ++ b ∷ []) ≡ (is_among c bs || b == c)
among_push c b bs = list_any-append (λ x. x == c) bs (b ∷ []) ∙ ap (λ x. is_among c bs || x) (or_false (b == c))

-- one block more, with its mark
pub more_marked : (n : ℕ) (blocks : List ℕ) (marks : List Bool) (b : ℕ) → AreMarks n blocks marks → b < n → AreMarks n (blocks ++ b ∷ []) (slice_set marks b true)
more_marked n blocks marks b so_far within = record { count = length-set marks b true ∙ so_far.count; exact = exact }
  where
    exact : (c : ℕ) → c < n → slice_index_or (slice_set marks b true) c false ≡ is_among c (blocks ++ b ∷ [])
    exact c below =
        ⊎_elim
        (λ same. ap (λ k. slice_index_or (slice_set marks b true) k false) (sym same)
        ∙ get_or-set_same marks b true false (omega (arith, within, so_far.count))
        ∙ sym (among_push c b blocks ∙ or_right (is_among c blocks) (b == c) (eq-eqb b c same)))
        (λ other. get_or-set_other marks b c true false (λ e. other (sym e))
        ∙ so_far.exact c below
        ∙ sym (among_push c b blocks ∙ ap (λ x. is_among c blocks || x) (ne_eqb b c other) ∙ or_false (is_among c blocks)))
        (cases_eq b c)

-- a block is put behind the others where its instruction is outside `pre` and it has no mark
pub rest_more : (f : Program) (split : List Part) (i b n : ℕ) (blocks : List ℕ) (marks : List Bool) (is_new : Bool)
    → (step_at f i).block ≡ b → b < n → AreMarks n blocks marks → blocks ≡ rest_below f split i
    → is_new ≡ (not (is_pre split i) && not (slice_index_or marks b false))
    → (if is_new then blocks ++ b ∷ [] else blocks) ≡ rest_below f split (i + 1)
rest_more f split i b n blocks marks is_new here within marked so_far new =
    ap (λ t. if t then blocks ++ b ∷ [] else blocks) (new ∙ ap (λ m. not (is_pre split i) && not m) (marked.exact b within))
    ∙ ap (λ bs. if not (is_pre split i) && not (is_among b bs) then bs ++ b ∷ [] else bs) so_far
    ∙ ap (λ k. if not (is_pre split i) && not (is_among k (rest_below f split i)) then rest_below f split i ++ k ∷ [] else rest_below f split i) (sym here)
    ∙ ap (rest_below f split) (sym (add-one i))
