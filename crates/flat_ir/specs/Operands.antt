-- Which instructions can be computed from numbers and tables alone.
use Rattle.std.specs.Prelude.{◌≡◌, ◌≤◌, length}
use Rattle.gal_bits.specs.Operators.{operator_row}
use Rattle.flat_ir.specs.Program.{Work}
use Rattle.flat_ir.specs.Program.Work.{apply, shift, look}

-- a key that is looked up has at most 8 numbers
abbrev pub HasFewKeys : Work → Type 0
HasFewKeys (look object keys) = length keys ≤ 8
HasFewKeys _ = Unit {0}

-- an operator has as many arguments as it takes, and a key has at most 8 numbers
abbrev pub CanRun : Work → Type 0
CanRun (apply op width args) = (length args ≡ (operator_row op).arity) × (length args ≤ 8)
CanRun (shift op width arg by) = (operator_row op).arity ≡ 2
CanRun (look object keys) = length keys ≤ 8
CanRun _ = Unit {0}
