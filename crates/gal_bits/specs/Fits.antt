-- Lemmas for the crates above: the value of an operator fits its width, and widths that a test finds the same are.
use Rattle.std.proofs.Common.{◌≡◌, ◌<◌, ◌%◌, ◌^◌, ℕ, true, ◌==◌, List, [], ◌∷◌, slice_index, refl, sym, true≢false}
use Rattle.std.proofs.Math.Nat.{mod-lt}
use Rattle.std.proofs.lemmas.Bool.{and_parts, eqb-true}
use Rattle.std.proofs.lemmas.Nat.{pow_pos}
use Rattle.gal_bits.specs.declared.op.Op.{Op}
use Rattle.gal_bits.specs.Fitting.{same_widths}
use Rattle.gal_bits.specs.Operators.{operator_row, value_of}

pub cut_fits : (n w : ℕ) → n % 2 ^ w < 2 ^ w
cut_fits n w = mod-lt n (pow_pos w)

pub operator_fits : (op : Op) (w : ℕ) (args : List ℕ) → value_of op w args < 2 ^ w
unfolding value_of
operator_fits op w args =
    cut_fits ((operator_row op).number w (slice_index args 0) (slice_index args 1) (slice_index args 2)) w

pub same_list : (xs ys : List ℕ) → same_widths xs ys ≡ true → xs ≡ ys
same_list [] [] h = refl
same_list [] (y ∷ ys) h = absurd (true≢false (sym h))
same_list (x ∷ xs) [] h = absurd (true≢false (sym h))
same_list (x ∷ xs) (y ∷ ys) h =
    let parts = and_parts (x == y) (same_widths xs ys) h in
    let first : x ≡ y = eqb-true x y parts.0 in
    let rest : xs ≡ ys = same_list xs ys parts.1 in
    cc
