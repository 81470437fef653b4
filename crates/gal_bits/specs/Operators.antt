-- The operators over numbers of any size.
use Rattle.std.specs.Prelude.{ℕ, ◌+◌, ◌-◌, ◌*◌, ◌/◌, ◌%◌, ◌^◌, ◌==◌, Bool, true, false, List, codes, nat_lt, nat_le}
use Rattle.std.specs.Prelude.{bit_and, bit_or, bit_xor, slice_index, if◌then◌else◌}
use Rattle.gal_bits.specs.Checksum.{adjusted}
use Rattle.gal_bits.specs.declared.op.Op.{Op}
use Rattle.gal_bits.specs.declared.op.Op.TheVariants.{Add, Sub, Mul, Div, Rem, And, Or, Xor, Not, Shl, Shr, Eq, Ne, Lt}
use Rattle.gal_bits.specs.declared.op.Op.TheVariants.{Le, Cast, Select, Adjust}

-- whether something is so, as a number of 1 bit
abbrev pub bit : Bool → ℕ
bit true = 1
bit false = 0

-- what is said of an operator; its number, at a width and of up to three arguments, is not yet cut to the width
pub record OperatorRow : Type 0 where
  pub name : List ℕ
  pub arity : ℕ
  pub on_switch : Bool
  pub number : ℕ → ℕ → ℕ → ℕ → ℕ

-- one row of the table
abbrev pub operator_named : List ℕ → ℕ → Bool → (ℕ → ℕ → ℕ → ℕ → ℕ) → OperatorRow
operator_named name arity on_switch number =
    record { name = name; arity = arity; on_switch = on_switch; number = number }

-- the table; w is the width, and x, y and z are the arguments
abbrev pub operator_row : Op → OperatorRow
operator_row Add = operator_named (codes "add") 2 true (λ w x y z. x + y)
operator_row Sub = operator_named (codes "sub") 2 true (λ w x y z. x + (2 ^ w - y % 2 ^ w))
operator_row Mul = operator_named (codes "mul") 2 false (λ w x y z. x * y)
operator_row Div = operator_named (codes "div") 2 false (λ w x y z. if y == 0 then 0 else x / y)
operator_row Rem = operator_named (codes "rem") 2 false (λ w x y z. if y == 0 then x else x % y)
operator_row And = operator_named (codes "and") 2 true (λ w x y z. bit_and x y)
operator_row Or = operator_named (codes "or") 2 true (λ w x y z. bit_or x y)
operator_row Xor = operator_named (codes "xor") 2 true (λ w x y z. bit_xor x y)
operator_row Not = operator_named (codes "not") 1 true (λ w x y z. 2 ^ w - 1 - x % 2 ^ w)
operator_row Shl = operator_named (codes "shl") 2 true (λ w x y z. if nat_lt y w then x * 2 ^ y else 0)
operator_row Shr = operator_named (codes "shr") 2 true (λ w x y z. if nat_lt y w then x / 2 ^ y else 0)
operator_row Eq = operator_named (codes "eq") 2 true (λ w x y z. if x == y then 1 else 0)
operator_row Ne = operator_named (codes "ne") 2 true (λ w x y z. if x == y then 0 else 1)
operator_row Lt = operator_named (codes "lt") 2 true (λ w x y z. if nat_lt x y then 1 else 0)
operator_row Le = operator_named (codes "le") 2 true (λ w x y z. if nat_le x y then 1 else 0)
operator_row Cast = operator_named (codes "cast") 1 true (λ w x y z. x)
operator_row Select = operator_named (codes "select") 3 true (λ w x y z. if x == 1 then y else z)
operator_row Adjust = operator_named (codes "adjust") 3 true (λ w x y z. adjusted (x % 65536) (y % 65536) (z % 65536))

-- the operator's value at width w of the arguments
unfoldable pub value_of : Op → ℕ → List ℕ → ℕ
value_of op w args = (operator_row op).number w (slice_index args 0) (slice_index args 1) (slice_index args 2) % 2 ^ w
