-- Values of no bits.
use Rattle.std.proofs.Common.{◌≡◌, ◌≤◌, ℕ, ◌%◌, List, slice_index, sym, subst, arith, refl, zero, suc}
use Rattle.gal_bits.specs.declared.op.Op.{Op}
use Rattle.gal_bits.specs.Operators.{operator_row, value_of}

rest_of_one : (n : ℕ) → 0 ≡ n % 1
rest_of_one n = omega arith

at_zero : (op : Op) (args : List ℕ) → 0 ≡ value_of op 0 args
unfolding value_of
at_zero op args = rest_of_one ((operator_row op).number 0 (slice_index args 0) (slice_index args 1) (slice_index args 2))

few : (n : ℕ) → n ≤ 64 → ((1 ≤ n) × (n ≤ 64) → ⊥) → n ≡ 0
few zero small none = refl
few (suc n) small none = absurd (none (omega arith, small))

-- an operator of no bits gives 0
pub no_bits : (op : Op) (bits : ℕ) (args : List ℕ) → bits ≤ 64 → ((1 ≤ bits) × (bits ≤ 64) → ⊥) → 0 ≡ value_of op bits args
no_bits op bits args small none = subst (λ n. 0 ≡ value_of op n args) (sym (few bits small none)) (at_zero op args)
