-- Which instructions use the results of each.
use Rattle.std.specs.Prelude.{◌≡◌, ℕ, ◌==◌, ◌<◌, Bool, List, [], length, slice_index_or}
use Rattle.std.specs.List.{list_any, filter, range_with_len}
use Rattle.flat_ir.specs.Program.{Program, step_at, operands}

-- a result of instruction j is an operand of instruction u
abbrev pub is_user : Program → ℕ → ℕ → Bool
is_user f j u = list_any (λ v. v.instruction == j) (operands (step_at f u).work)

-- the instructions that have a result of instruction j as an operand, in rising order
abbrev pub users_of : Program → ℕ → List ℕ
users_of f j = filter (is_user f j) (range_with_len 0 (length f.code))

-- for each instruction, those that have one of its results as an operand
pub record AreUses (f : Program) (uses : List (List ℕ)) : Type 0 where
  pub count : length uses ≡ length f.code
  pub users : (j : ℕ) → j < length f.code → slice_index_or uses j [] ≡ users_of f j
