-- Counts that stop at the greatest that 64 bits can hold.
use Rattle.std.proofs.Common.{◌≡◌, ℕ, zero, suc, ◌+◌, ◌-◌, ◌*◌, ◌^◌, ◌<◌, ◌≤◌, ◌⊎◌, inl, inr, ap, ◌∙◌, arith}
use Rattle.std.proofs.lemmas.Bool.{cases_lt}
use Rattle.std.proofs.lemmas.Nat.{mul-le}
use Rattle.element_print.specs.Lengths.{capped}

abbrev most : ℕ
most = 2 ^ 64 - 1

pub capped_again : (n : ℕ) → capped (capped n) ≡ capped n
capped_again n = omega arith

pub add_capped : (a b x y : ℕ) → capped a ≡ capped x → capped b ≡ capped y → capped (a + b) ≡ capped (x + y)
add_capped a b x y h k = omega (arith, h, k)

-- two numbers that are capped to one are one, or neither fits
capped_cases : (a x : ℕ) → capped a ≡ capped x → (a ≡ x) ⊎ ((most ≤ a) × (most ≤ x))
capped_cases a x h = by_order (cases_lt a most)
  where
    by_order : (a < most) ⊎ (most ≤ a) → (a ≡ x) ⊎ ((most ≤ a) × (most ≤ x))
    by_order (inl below) = inl (omega (arith, h, below))
    by_order (inr past) = inr (past, omega (arith, h, past))

past_capped : (a x : ℕ) → most ≤ a → most ≤ x → capped a ≡ capped x
past_capped a x h k = omega (arith, h, k)

past_times : (a b : ℕ) → 1 ≤ a → most ≤ b → most ≤ a * b
past_times a b some past =
    let product : 1 * most ≤ a * b = mul-le 1 most a b some past in
    omega (arith, product)

times_past : (a b : ℕ) → most ≤ a → 1 ≤ b → most ≤ a * b
times_past a b past some =
    let product : most * 1 ≤ a * b = mul-le most 1 a b past some in
    omega (arith, product)

same_times : (a b y : ℕ) → (b ≡ y) ⊎ ((most ≤ b) × (most ≤ y)) → capped (a * b) ≡ capped (a * y)
same_times a b y (inl same) = ap (λ (n : ℕ). capped (a * n)) same
same_times zero b y (inr past) = let none : zero * b ≡ zero * y = omega arith in ap capped none
same_times (suc a) b y (inr past) = past_capped (suc a * b) (suc a * y) (past_times (suc a) b (omega arith) past.0) (past_times (suc a) y (omega arith) past.1)

times_same : (a x y : ℕ) → (a ≡ x) ⊎ ((most ≤ a) × (most ≤ x)) → capped (a * y) ≡ capped (x * y)
times_same a x y (inl same) = ap (λ (n : ℕ). capped (n * y)) same
times_same a x zero (inr past) = let none : a * zero ≡ x * zero = omega arith in ap capped none
times_same a x (suc y) (inr past) = past_capped (a * suc y) (x * suc y) (times_past a (suc y) past.0 (omega arith)) (times_past x (suc y) past.1 (omega arith))

pub mul_capped : (a b x y : ℕ) → capped a ≡ capped x → capped b ≡ capped y → capped (a * b) ≡ capped (x * y)
mul_capped a b x y h k = same_times a b y (capped_cases b y k) ∙ times_same a x y (capped_cases a x h)

-- what is added for each of some, told from what is there without and with one
pub rise_capped : (none each many : ℕ) → 1 ≤ many → capped (capped none + (capped (none + each) - capped none) * many) ≡ capped (none + each * many)
rise_capped none each many some = by_cases (cases_lt (none + each) most)
  where
    by_cases : (none + each < most) ⊎ (most ≤ none + each) → capped (capped none + (capped (none + each) - capped none) * many) ≡ capped (none + each * many)
    by_cases (inl below) =
        let first : capped none ≡ none = omega (arith, below) in
        let rise : capped (none + each) - capped none ≡ each = omega (arith, below) in
        ap (λ (n : ℕ). capped (n + (capped (none + each) - capped none) * many)) first
        ∙ ap (λ (n : ℕ). capped (none + n * many)) rise
    by_cases (inr past) =
        let rise = capped (none + each) - capped none in
        let less : rise * 1 ≤ rise * many = mul-le rise 1 rise many (omega arith) some in
        let more : each * 1 ≤ each * many = mul-le each 1 each many (omega arith) some in
        let one : rise * 1 ≡ rise = omega arith in
        let two : each * 1 ≡ each = omega arith in
        let whole : capped none + rise ≡ most = omega (arith, past) in
        past_capped (capped none + rise * many) (none + each * many) (omega (arith, whole, less, one)) (omega (arith, past, more, two))
