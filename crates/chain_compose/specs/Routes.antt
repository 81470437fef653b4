-- The wires of all elements.
use Rattle.std.specs.Prelude.{ℕ, zero, suc, List, [], ◌∷◌, ◌++◌}
use Rattle.element_chain.specs.declared.chain.Wire.{Wire}
use Rattle.element_chain.specs.Compose.{wires_of}

-- the wires of each of the first so many elements, in order of their outputs
abbrev pub all_routes : List Wire → ℕ → List (List Wire)
all_routes wires zero = []
all_routes wires (suc n) = all_routes wires n ++ wires_of wires n ∷ []
