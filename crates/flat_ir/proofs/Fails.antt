-- Tests that fail.
use Rattle.std.proofs.Common.{◌≡◌, ◌≢◌, ◌<◌, ◌≤◌, ◌%◌, ◌^◌, ◌-◌, ℕ, zero, suc, Bool, true, false, ◌&&◌, List, [], ◌∷◌, length, nat_eq, nat_lt, get_or, sym, ap, ◌∙◌, arith, ⊎_elim}
use Rattle.std.proofs.lemmas.Bool.{eq-eqb, ne_eqb, ltb-true, lt-ltb, cases_lt, false_from_ne_true}
use Rattle.std.proofs.lemmas.Nat.{pow_pos}
use Rattle.std.proofs.Math.Nat.{eq-or-lt_of_le, mod-lt, mod-eq_of_lt}
use Rattle.std.proofs.Math.Bool.{and-false}
use Rattle.std.specs.List.{list_all}
use Rattle.gal_bits.specs.Operators.{value_of as operator_value}
use Rattle.gal_bits.specs.declared.op.Op.TheVariants.{Cast}
use Rattle.flat_ir.specs.declared.program.Block.{Block}
use Rattle.flat_ir.specs.Blocks.{HasLowParents}
use Rattle.flat_ir.specs.Fits.{same_widths}
use Rattle.flat_ir.specs.Tests.{all_below, is_before, are_before}
use Rattle.gal_bits.specs.Fits.{same_list}
use Rattle.flat_ir.proofs.Lines.{line_suc}
use Rattle.std.proofs.lemmas.List.{get_or_default}

-- a test that fails at a number below one
pub not_below : (n : ℕ) (test : ℕ → Bool) (k : ℕ) → k < n → test k ≡ false → all_below n test ≡ false
not_below zero test k lt h = absurd (omega (arith, lt))
not_below (suc n) test k lt h =
    ⊎_elim
    (λ e. ap (λ b. all_below n test && b) (ap test (sym e) ∙ h) ∙ and-false (all_below n test))
    (λ less. ap (λ b. b && test n) (not_below n test k less h))
    (eq-or-lt_of_le {n = k} {m = n} (omega (arith, lt)))

-- lists of other lengths
pub other_length : (xs ys : List ℕ) → length xs ≢ length ys → same_widths xs ys ≡ false
other_length xs ys ne = false_from_ne_true (same_widths xs ys) (λ h. ne (ap length (same_list xs ys h)))

-- a number is itself in a width just where it is below the power
pub in_width : (n w : ℕ) → nat_eq (operator_value Cast w (n ∷ [])) n ≡ nat_lt n (2 ^ w)
unfolding operator_value
in_width n w =
    ⊎_elim
    (λ lt. eq-eqb (n % 2 ^ w) n (mod-eq_of_lt lt) ∙ sym (lt-ltb n (2 ^ w) lt))
    (λ le. ne_eqb (n % 2 ^ w) n (λ e. let below = mod-lt n (pow_pos w) in omega (arith, e, le, below))
    ∙ sym (false_from_ne_true (nat_lt n (2 ^ w)) (λ h. let lt = ltb-true n (2 ^ w) h in omega (arith, le, lt))))
    (cases_lt n (2 ^ w))

-- the conditions of a block and of those above it, by the list's entry
pub before_at : (blocks : List Block) (low : HasLowParents blocks) (i n : ℕ) (d : Block) → 0 < n → n ≤ length blocks → are_before blocks i n ≡ (nat_lt (get_or blocks (n - 1) d).cond.instruction i && are_before blocks i (get_or blocks (n - 1) d).parent)
before_at blocks low i zero d pos le = absurd (omega (arith, pos))
before_at blocks low i (suc k) d pos le =
    let last : suc k - 1 ≡ k = omega arith in
    ap (list_all (is_before blocks i)) (line_suc blocks low k)
    ∙ ap (λ (b : Block). nat_lt b.cond.instruction i && are_before blocks i b.parent) (get_or_default blocks k (record { parent = 0; cond = record { instruction = 0; result = 0 }; polarity = true }) d le ∙ ap (λ j. get_or blocks j d) (sym last))
