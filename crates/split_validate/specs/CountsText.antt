-- The text of what a split takes.
use Rattle.std.specs.Prelude.{ℕ, List, ◌++◌, codes, decimal}
use Rattle.resource_limits.specs.Counts.{greatest}
use Rattle.resource_limits.specs.declared.counting.Counts.{Counts}

-- each count behind its name; of those that are for each object, the greatest
abbrev pub counts_text : Counts → List ℕ
counts_text c =
    codes "accesses " ++ (decimal (greatest c.accesses)
    ++ (codes " stages " ++ (decimal c.stages
    ++ (codes " table_bits " ++ (decimal c.table_bits
    ++ (codes " writeback " ++ (decimal (greatest c.writes)
    ++ (codes " transfer_bytes " ++ decimal c.transfer_bytes))))))))
