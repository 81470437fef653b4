-- Splits that need no more stages than others.
use Rattle.std.specs.Prelude.{◌≡◌, ◌≤◌, List}
use Rattle.flat_ir.specs.Program.{Program}
use Rattle.split_model.specs.declared.split.Part.{Part}
use Rattle.split_model.specs.Legal.{IsLegal}
use Rattle.split_model.specs.Greatest.{pre_marks, post_marks, pre_stages, post_stages}
use Rattle.resource_limits.specs.Counts.{greatest}

-- no legal split in which preprocessing computes the same instructions has a lower highest stage there
abbrev pub IsLowestBefore : Program → List Part → Type 0
IsLowestBefore f split =
    (other : List Part) → IsLegal f other → pre_marks other ≡ pre_marks split
    → greatest (pre_stages split) ≤ greatest (pre_stages other)

-- no legal split in which postprocessing computes the same instructions has a lower highest stage there
abbrev pub IsLowestAfter : Program → List Part → Type 0
IsLowestAfter f split =
    (other : List Part) → IsLegal f other → post_marks other ≡ post_marks split
    → greatest (post_stages split) ≤ greatest (post_stages other)
