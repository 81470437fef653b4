-- Numbers that are put at places, one after the other.
use Rattle.std.proofs.Common.{◌≡◌, ◌∙◌, ◌+◌, ◌++◌, ℕ, List, [], ◌∷◌, refl, sym, ap, add-one}
use Rattle.std.specs.Prelude.{slice_index}
use Rattle.transfer_header.specs.Ready.{all_placed, first_placed}
use Rattle.transfer_header.specs.Registers.{Registers, placed}

pub placed_behind : (registers : Registers) (ps qs : List (ℕ × ℕ)) → all_placed registers (ps ++ qs) ≡ all_placed (all_placed registers ps) qs
placed_behind registers [] qs = refl
placed_behind registers (p ∷ ps) qs = placed_behind (placed registers p.0 p.1) ps qs

-- one result more is put at its place
pub put_more : (places given : List ℕ) (k : ℕ) (start before after : Registers) (place number : ℕ) → before ≡ all_placed start (first_placed places given k)
    → after ≡ placed before place number → place ≡ slice_index places k → number ≡ slice_index given k
    → after ≡ all_placed start (first_placed places given (k + 1))
put_more places given k start before after place number is more here so =
    more ∙ ap (λ (rs : Registers). placed rs place number) is
    ∙ ap (λ (p : ℕ). placed (all_placed start (first_placed places given k)) p number) here
    ∙ ap (λ (n : ℕ). placed (all_placed start (first_placed places given k)) (slice_index places k) n) so
    ∙ sym (placed_behind start (first_placed places given k) ((slice_index places k, slice_index given k) ∷ []))
    ∙ ap (λ (m : ℕ). all_placed start (first_placed places given m)) (sym (add-one k))
