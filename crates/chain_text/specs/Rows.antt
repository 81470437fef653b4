-- Rows of which elements wires lead to, one behind the other.
use Rattle.std.specs.Prelude.{ℕ, ◌+◌, ◌*◌, Bool, true, List, slice_set}
use Rattle.element_chain.specs.declared.chain.Target.{Target}
use Rattle.element_chain.specs.declared.chain.Target.TheVariants.{Element, Out}
use Rattle.element_chain.specs.declared.chain.Wire.{Wire}

-- with a wire from an element to another
abbrev pub with_target : ℕ → List Bool → ℕ → Target → List Bool
with_target count rows from Out = rows
with_target count rows from (Element to) = slice_set rows (from * count + to) true

abbrev pub with_wire : ℕ → List Bool → Wire → List Bool
with_wire count rows w = with_target count rows w.from w.to
