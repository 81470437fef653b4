-- What holds of the value of each line holds of all values of a text.
use Rattle.std.proofs.Common.{ℕ, suc, true, false, List, [], ◌∷◌, length}
use Rattle.std.specs.Prelude.{All, IfOk, Result, Ok, Err, nat_le, if◌then◌else◌}
use Rattle.std.proofs.lemmas.List.Elements.{All-nil, All-cons}
use Rattle.gal_io.specs.Lines.{is_skipped}
use Rattle.run_text.specs.Trace.{at_most, line_values, with_line}
use Rattle.run_text.specs.declared.refusal.LineKind.{LineKind}
use Rattle.run_text.specs.declared.refusal.LinesError.{LinesError}
use Rattle.run_text.specs.declared.refusal.LinesError.TheVariants.{TooMany}

behind_line : {X : Type 0} (P : X → Type 0) (n : ℕ) (given : Result X LineKind) (behind : Result (List X) LinesError) → IfOk given P → IfOk behind (All P) → IfOk (with_line n given behind) (All P)
behind_line P n (Ok x) (Ok xs) first rest = All-cons P x xs first rest
behind_line P n (Ok x) (Err e) first rest = tt
behind_line P n (Err kind) behind first rest = tt

pub all_lines : {X : Type 0} (P : X → Type 0) (value : List ℕ → Result X LineKind) → ((line : List ℕ) → IfOk (value line) P) → (n : ℕ) (ls : List (List ℕ)) → IfOk (line_values value n ls) (All P)
all_lines P value each n [] = All-nil P
all_lines P value each n (l ∷ ls) =
    let rest = all_lines P value each (suc n) ls in
    elim (is_skipped l) as (λ b. IfOk (if b then line_values value (suc n) ls else with_line n (value l) (line_values value (suc n) ls)) (All P)) [
      | true ↦ rest
      | false ↦ behind_line P n (value l) (line_values value (suc n) ls) (each l) rest
    ]

pub all_of_most : {X : Type 0} (P : X → Type 0) (most : ℕ) (given : Result (List X) LinesError) → IfOk given (All P) → IfOk (at_most most given) (All P)
all_of_most P most (Ok xs) h = elim (nat_le (length xs) most) as (λ b. IfOk (if b then Ok xs else Err (TooMany (length xs) most)) (All P)) [ true ↦ h | false ↦ tt ]
all_of_most P most (Err e) h = tt
