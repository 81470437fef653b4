-- What a split takes, in one record.
use Rattle.std.specs.Prelude.{ℕ, zero, suc, max, List, [], ◌∷◌, ◌++◌, length}
use Rattle.flat_ir.specs.Program.{Program}
use Rattle.split_model.specs.declared.split.Part.{Part}
use Rattle.split_model.specs.Counts as split
use Rattle.resource_limits.specs.declared.counting.Counts.{Counts}

-- the greatest of some numbers, 0 where there are none
abbrev pub greatest : List ℕ → ℕ
greatest [] = 0
greatest (n ∷ ns) = max n (greatest ns)

-- the numbers of the first n objects, in order of declaration
abbrev pub first_numbers : ℕ → (ℕ → ℕ) → List ℕ
first_numbers zero number = []
first_numbers (suc n) number = first_numbers n number ++ number n ∷ []

-- a number for each object, in order of declaration
abbrev pub each_object : Program → (ℕ → ℕ) → List ℕ
each_object f number = first_numbers (length f.objects) number

-- what a split takes, where each write-back table has room for so many rows
abbrev pub counts_of : Program → List Part → ℕ → Counts
counts_of f parts writeback = record {
  accesses = each_object f (split.accesses f parts);
  stages = split.stages f parts;
  table_bits = split.table_bits f parts writeback;
  writes = each_object f (split.writes f parts);
  transfer_bytes = split.transfer_bytes f parts;
}
