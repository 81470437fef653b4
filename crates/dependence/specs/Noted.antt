-- Only proofs need this. Users of each instruction, noted one after the other.
use Rattle.std.specs.Prelude.{◌≡◌, ℕ, ◌==◌, ◌-◌, ◌<◌, ◌&&◌, ◌∷◌, ◌++◌, Bool, List, [], nat_lt, length}
use Rattle.std.specs.Prelude.{slice_index, slice_index_or, slice_set, if◌then◌else◌}
use Rattle.std.specs.List.{filter, range_with_len}
use Rattle.flat_ir.specs.declared.program.ValueId.{ValueId}
use Rattle.flat_ir.specs.Program.{Program}
use Rattle.dependence.specs.Uses.{is_user}

-- the numbers end with this one
abbrev pub is_last : List ℕ → ℕ → Bool
is_last row n = nat_lt 0 (length row) && (slice_index row (length row - 1) == n)

-- the numbers, and this one after them where they don't end with it
abbrev pub noted : List ℕ → ℕ → List ℕ
noted row n = if is_last row n then row else row ++ n ∷ []

-- the lists, where that of instruction j has this number noted
abbrev pub noted_at : List (List ℕ) → ℕ → ℕ → List (List ℕ)
noted_at rows n j = slice_set rows j (noted (slice_index_or rows j []) n)

-- the same at the instructions of several values
abbrev pub noted_all : List (List ℕ) → ℕ → List ValueId → List (List ℕ)
noted_all rows n [] = rows
noted_all rows n (v ∷ vs) = noted_all (noted_at rows n v.instruction) n vs

-- the users among the first n instructions
pub record AreUsesSoFar (f : Program) (n : ℕ) (uses : List (List ℕ)) : Type 0 where
  pub count : length uses ≡ length f.code
  pub users : (j : ℕ) → j < length f.code
      → slice_index_or uses j [] ≡ filter (is_user f j) (range_with_len 0 n)
