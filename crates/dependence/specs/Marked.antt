-- Only proofs need this. Marks on the instructions of several values.
use Rattle.std.specs.Prelude.{Bool, false, List, slice_index_or}
use Rattle.std.specs.List.{list_all}
use Rattle.flat_ir.specs.declared.program.ValueId.{ValueId}

-- each of these values is of a marked instruction
abbrev pub are_marked : List Bool → List ValueId → Bool
are_marked marks values = list_all (λ v. slice_index_or marks v.instruction false) values
