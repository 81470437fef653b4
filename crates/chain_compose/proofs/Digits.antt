-- How many digits numbers have, told by powers of ten.
use Rattle.std.proofs.Common.{◌≡◌, ◌⊎◌, inl, inr, ℕ, zero, suc, ◌+◌, ◌*◌, ◌/◌, ◌%◌, ◌^◌, ◌<◌, ◌≤◌, nat_le, Bool, true, false, cond, List, [], ◌∷◌, length, map, slice_index, refl, ap, ◌∙◌, arith, length-append}
use Rattle.std.specs.Fmt.{decimal}
use Rattle.std.specs.List.{All}
use Rattle.std.proofs.lemmas.Bool.Decides.{nat_tests}
use Rattle.std.proofs.lemmas.Bool.{cases_lt}
use Rattle.std.proofs.lemmas.List.Elements.{All-head, All-tail}
use Rattle.std.proofs.lemmas.Fmt.{decimal_step}
use Rattle.element_lang.specs.declared.tree.Local.{Local}
use Rattle.element_chain.specs.Compose.{locals_from}
use Rattle.chain_compose.specs.NamedFrom.{is_from}
use Rattle.chain_compose.specs.Named.{more_digits, names_sum}
use Rattle.lemmas.proofs.Numbers.{one_digit}

-- a number is at least ten times another where its tenth is at least as much
tenth : (p x : ℕ) → nat_le (10 * p) x ≡ nat_le p (x / 10)
tenth p x = grind (arith, nat_tests)

ten_times : (k : ℕ) → 10 ^ suc k ≡ 10 * 10 ^ k
ten_times k = omega arith

some_power : (k : ℕ) → 1 ≤ 10 ^ k
some_power zero = omega arith
some_power (suc k) = omega (arith, some_power k, ten_times k)

-- a number has one more digit than its tenth, where it has two
one_more : (k x : ℕ) → more_digits (suc k) (x ∷ []) ≡ is_from 10 x + more_digits k (x / 10 ∷ [])
one_more zero x = omega arith
one_more (suc k) x =
    let test : nat_le (10 ^ suc (suc k)) x ≡ nat_le (10 ^ suc k) (x / 10) =
    ap (λ n. nat_le n x) (ten_times (suc k)) ∙ tenth (10 ^ suc k) x in
    let same : is_from (10 ^ suc (suc k)) x ≡ is_from (10 ^ suc k) (x / 10) = ap (λ (b : Bool). cond b 1 0) test in
    omega (arith, one_more k x, same)

none_more : (k : ℕ) → more_digits k (0 ∷ []) ≡ 0
none_more zero = refl
none_more (suc k) =
    let some : 1 ≤ 10 ^ suc k = some_power (suc k) in
    let test : nat_le (10 ^ suc k) 0 ≡ false = grind (arith, nat_tests) in
    let same : is_from (10 ^ suc k) 0 ≡ 0 = ap (λ (b : Bool). cond b 1 0) test in
    omega (arith, none_more k, same)

digits_by_size : (k x : ℕ) → x < 10 ^ suc (suc k) → x < 2 ^ 64 → length (decimal (x / 10)) ≡ suc (more_digits k (x / 10 ∷ []))
    → (x < 10) ⊎ (10 ≤ x) → length (decimal x) ≡ suc (more_digits (suc k) (x ∷ []))
digits_by_size k x below wide rest (inr le) =
    let test : nat_le 10 x ≡ true = grind (arith, nat_tests) in
    let one : is_from 10 x ≡ 1 = ap (λ (b : Bool). cond b 1 0) test in
    omega (arith, ap length (decimal_step x le wide), length-append (decimal (x / 10)) ((48 + x % 10) ∷ []), rest, one_more k x, one)
digits_by_size k x below wide rest (inl lt) =
    let test : nat_le 10 x ≡ false = grind (arith, nat_tests) in
    let none : is_from 10 x ≡ 0 = ap (λ (b : Bool). cond b 1 0) test in
    let small : x / 10 ≡ 0 = omega (arith, lt) in
    let zeros : more_digits k (x / 10 ∷ []) ≡ 0 = ap (λ (n : ℕ). more_digits k (n ∷ [])) small ∙ none_more k in
    omega (arith, one_digit x lt, one_more k x, none, zeros)

pub digits_told : (k x : ℕ) → x < 10 ^ suc k → x < 2 ^ 64 → length (decimal x) ≡ suc (more_digits k (x ∷ []))
digits_told zero x lt wide = one_digit x (omega (arith, lt))
digits_told (suc k) x lt wide =
    let below : x / 10 < 10 ^ suc k = omega (arith, lt, ten_times (suc k)) in
    digits_by_size k x lt wide (digits_told k (x / 10) below (omega (arith, wide))) (cases_lt x 10)

-- one number and others
digits_of_both : (k x : ℕ) (xs : List ℕ) → more_digits k (x ∷ xs) ≡ more_digits k (x ∷ []) + more_digits k xs
digits_of_both zero x xs = refl
digits_of_both (suc k) x xs = omega (arith, digits_of_both k x xs)

-- ## Names of locals
abbrev lengths_from : ℕ → List ℕ → List ℕ
lengths_from i ws = map (λ (l : Local). length l.name) (locals_from i ws)

name_told : (i x : ℕ) (ws : List ℕ) → x < length ws → slice_index (lengths_from i ws) x ≡ suc (length (decimal (i + x)))
name_told i x [] lt = absurd (omega (arith, lt))
name_told i zero (w ∷ ws) lt =
    let same : i ≡ i + 0 = omega arith in
    ap (λ n. suc (length (decimal n))) same
name_told i (suc x) (w ∷ ws) lt =
    let same : suc i + x ≡ i + suc x = omega arith in
    name_told (suc i) x ws (omega (arith, lt)) ∙ ap (λ n. suc (length (decimal n))) same

-- two bytes for each name, and its further digits
pub names_told : (ws xs : List ℕ) → length ws < 2 ^ 64 → All (λ (x : ℕ). x < length ws) xs
    → names_sum (map (λ (l : Local). length l.name) (locals_from 0 ws)) xs ≡ 2 * length xs + more_digits 19 xs
names_told ws [] few below = omega arith
names_told ws (x ∷ xs) few below =
    let lt : x < length ws = All-head (λ (x : ℕ). x < length ws) x xs below in
    let rest = names_told ws xs few (All-tail (λ (x : ℕ). x < length ws) x xs below) in
    let digits = digits_told 19 x (omega (arith, lt, few)) (omega (arith, lt, few)) in
    let same : 0 + x ≡ x = omega arith in
    let name : slice_index (map (λ (l : Local). length l.name) (locals_from 0 ws)) x ≡ suc (length (decimal x)) =
    name_told 0 x ws lt ∙ ap (λ n. suc (length (decimal n))) same in
    omega (arith, name, digits, rest, digits_of_both 19 x xs)

-- each name has a byte or more
pub names_some : (ws xs : List ℕ) → All (λ (x : ℕ). x < length ws) xs
    → length xs ≤ names_sum (map (λ (l : Local). length l.name) (locals_from 0 ws)) xs
names_some ws [] below = omega arith
names_some ws (x ∷ xs) below =
    let lt : x < length ws = All-head (λ (x : ℕ). x < length ws) x xs below in
    let rest = names_some ws xs (All-tail (λ (x : ℕ). x < length ws) x xs below) in
    omega (arith, name_told 0 x ws lt, rest)
