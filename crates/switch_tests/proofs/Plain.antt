-- Registers without a plan.
use Rattle.std.proofs.Common.{◌≡◌, ℕ, ◌<◌, List, [], ◌∷◌, length, None, refl, sym, subst, arith}
use Rattle.std.specs.Prelude.{All, IsSome}
use Rattle.std.proofs.lemmas.List.Kept.{AllPairs-cons}
use Rattle.split_model.specs.declared.layout.Crossing.{Crossing}
use Rattle.transfer_header.specs.Registers.{Registers, HasRegister, IsRising, FitsLayout}
use Rattle.std.proofs.lemmas.List.Elements.{All-cons, All-nil}
use Rattle.transfer_header.proofs.LayoutInRegisters.{fits_own, own_place}

pub has_own : (registers : Registers) (value : ℕ) → registers.plan ≡ None → value < length registers.numbers → HasRegister registers value
has_own registers value none lt = subst (λ place. IsSome place) (sym (own_place registers none value lt)) refl

rising_none : IsRising []
rising_none i j d low lt = absurd (omega (arith, low, lt))

rising_more : (c : Crossing) (cs : List Crossing) → All (λ (d : Crossing). c.number < d.number) cs → IsRising cs → IsRising (c ∷ cs)
rising_more c cs all rising = AllPairs-cons (λ (a b : Crossing). a.number < b.number) c cs all rising

-- layouts of one value, of two and of three
pub one_fits : (a : Crossing) (registers : Registers) → registers.plan ≡ None → a.number < length registers.numbers
    → FitsLayout (a ∷ []) registers
one_fits a registers none within = fits_own (a ∷ []) registers none
    (rising_more a [] (All-nil (λ (d : Crossing). a.number < d.number)) rising_none)
    (All-cons (λ (c : Crossing). c.number < length registers.numbers) a [] within
    (All-nil (λ (c : Crossing). c.number < length registers.numbers)))

pub two_fit : (a b : Crossing) (registers : Registers) → registers.plan ≡ None → a.number < b.number
    → b.number < length registers.numbers → FitsLayout (a ∷ b ∷ []) registers
two_fit a b registers none ab within =
    let after : (c : Crossing) → All (λ (d : Crossing). c.number < d.number) [] = λ c. All-nil (λ (d : Crossing). c.number < d.number) in
    let inside : Crossing → Type 0 = λ c. c.number < length registers.numbers in
    fits_own (a ∷ b ∷ []) registers none
    (rising_more a (b ∷ []) (All-cons (λ (d : Crossing). a.number < d.number) b [] ab (after a)) (rising_more b [] (after b) rising_none))
    (All-cons inside a (b ∷ []) (omega (arith, ab, within)) (All-cons inside b [] within (All-nil inside)))

pub three_fit : (a b c : Crossing) (registers : Registers) → registers.plan ≡ None → a.number < b.number
    → b.number < c.number → c.number < length registers.numbers → FitsLayout (a ∷ b ∷ c ∷ []) registers
three_fit a b c registers none ab bc within =
    let after : (x : Crossing) → All (λ (d : Crossing). x.number < d.number) [] = λ x. All-nil (λ (d : Crossing). x.number < d.number) in
    let inside : Crossing → Type 0 = λ x. x.number < length registers.numbers in
    fits_own (a ∷ b ∷ c ∷ []) registers none
    (rising_more a (b ∷ c ∷ []) (All-cons (λ (d : Crossing). a.number < d.number) b (c ∷ []) ab
    (All-cons (λ (d : Crossing). a.number < d.number) c [] (omega (arith, ab, bc)) (after a)))
    (rising_more b (c ∷ []) (All-cons (λ (d : Crossing). b.number < d.number) c [] bc (after b)) (rising_more c [] (after c) rising_none)))
    (All-cons inside a (b ∷ c ∷ []) (omega (arith, ab, bc, within))
    (All-cons inside b (c ∷ []) (omega (arith, bc, within)) (All-cons inside c [] within (All-nil inside))))
