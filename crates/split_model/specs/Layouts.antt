-- The values that are handed up and down, each with its number among all values and its width.
use Rattle.std.specs.Prelude.{ℕ, zero, suc, ◌+◌, ◌++◌, List, [], ◌∷◌, length, map}
use Rattle.std.specs.List.{filter}
use Rattle.flat_ir.specs.declared.program.ValueId.{ValueId}
use Rattle.flat_ir.specs.Program.{Program, step_at, result_count, width_of_value}
use Rattle.split_model.specs.declared.split.Part.{Part}
use Rattle.split_model.specs.declared.layout.Crossing.{Crossing}
use Rattle.split_model.specs.Crossing.{crosses_up, crosses_down}

-- the first n results of an instruction
abbrev pub first_results : ℕ → ℕ → List ValueId
first_results i zero = []
first_results i (suc n) = first_results i n ++ record { instruction = i; result = n } ∷ []

-- the values of the first n instructions, in order of instruction and result
abbrev pub values_below : Program → ℕ → List ValueId
values_below f zero = []
values_below f (suc n) = values_below f n ++ first_results n (result_count f.objects (step_at f n).work)

-- all values of the program
abbrev pub values_of : Program → List ValueId
values_of f = values_below f (length f.code)

-- the number of a value: how many stand before it
abbrev pub number_of : Program → ValueId → ℕ
number_of f v = length (values_below f v.instruction) + v.result

abbrev pub crossing : Program → ValueId → Crossing
crossing f v = record { value = v; number = number_of f v; width = width_of_value f v }

abbrev pub up_values : Program → List Part → List ValueId
up_values f split = filter (crosses_up f split) (values_of f)

abbrev pub down_values : Program → List Part → List ValueId
down_values f split = filter (crosses_down f split) (values_of f)

abbrev pub up_layout : Program → List Part → List Crossing
up_layout f split = map (crossing f) (up_values f split)

abbrev pub down_layout : Program → List Part → List Crossing
down_layout f split = map (crossing f) (down_values f split)
