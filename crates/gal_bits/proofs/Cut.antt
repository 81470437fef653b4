-- Numbers cut to their lowest bits, first at 64 and then at a width.
use Rattle.std.proofs.Common.{◌≡◌, ℕ, ◌+◌, ◌-◌, ◌*◌, ◌/◌, ◌%◌, ◌^◌, ◌<◌, ◌≤◌, sym, ap, ◌∙◌, subst, arith, mod-eq_of_lt, pow_pos}
use Rattle.std.proofs.Math.Nat.{add-mul-mod_self_right}
use Rattle.std.proofs.Math.Pow.{mod-mod-pow}
use Rattle.std.proofs.lemmas.Nat.{one_shl, mod_below, pow-add, shr_below, div-add-mod'}

-- the code cuts at 64 bits on its way: that changes nothing
pub cut_cut : (n w : ℕ) → w ≤ 64 → n % 2 ^ 64 % 2 ^ w ≡ n % 2 ^ w
cut_cut n w narrow =
    let whole : 64 - w + w ≡ 64 = omega arith in
    ap (λ k. n % 2 ^ k % 2 ^ w) (sym whole) ∙ mod-mod-pow n (64 - w) w

-- a number of 64 bits is cut there already
pub cut_whole : (n w : ℕ) → w ≡ 64 → n < 2 ^ 64 → n ≡ n % 2 ^ w
cut_whole n w whole fits = sym (ap (λ k. n % 2 ^ k) whole ∙ mod-eq_of_lt fits)

-- the bit that the code shifts up is the power of 2
pub cut_part : (n w : ℕ) → w < 64 → n % (1 * 2 ^ w % 2 ^ 64) ≡ n % 2 ^ w
cut_part n w narrow = ap (λ k. n % k) (one_shl w 64 narrow)

-- what is cut is below the power of 2
pub cut_below : (r n w : ℕ) → r ≡ n % 2 ^ w → r < 2 ^ w
cut_below r n w cut = omega (arith, cut, mod_below n (2 ^ w) (pow_pos w))

-- what n lacks of a * p, in multiples of p and the rest
lacking : (a p n q r : ℕ) → q * p + r ≡ n → q < a → r < p → a * p - n ≡ (a - 1 - q) * p + (p - r)
lacking a p n q r parts low short =
    let more : ℕ = a - 1 - q in
    let count : q + 1 + more ≡ a = omega arith in
    let whole : q * p + p + more * p ≡ a * p = sym (ap (λ k. k * p) (sym count) ∙ omega arith) in
    omega (arith, parts, whole, short)

-- what n lacks of 2 ^ 64, likewise
lacking_64 : (n w : ℕ) → w ≤ 64 → n < 2 ^ 64 → (more : ℕ) × (2 ^ 64 - n ≡ more * 2 ^ w + (2 ^ w - n % 2 ^ w))
lacking_64 n w narrow fits =
    let whole : 64 - w + w ≡ 64 = omega arith in
    let power : 2 ^ (64 - w) * 2 ^ w ≡ 2 ^ 64 = sym (pow-add 2 (64 - w) w) ∙ ap (λ k. 2 ^ k) whole in
    let low : n / 2 ^ w < 2 ^ (64 - w) = shr_below n (64 - w) w (subst (λ k. n < 2 ^ k) (sym whole) fits) in
    (2 ^ (64 - w) - 1 - n / 2 ^ w, ap (λ k. k - n) (sym power) ∙ lacking (2 ^ (64 - w)) (2 ^ w) n (n / 2 ^ w) (n % 2 ^ w) (div-add-mod' n (2 ^ w)) low (mod_below n (2 ^ w) (pow_pos w)))

-- a difference that wraps at 64 bits, cut at w, is one that wraps at w
pub cut_difference : (x y w : ℕ) → w ≤ 64 → y < 2 ^ 64 → (x + (2 ^ 64 - y)) % 2 ^ w ≡ (x + (2 ^ w - y % 2 ^ w)) % 2 ^ w
cut_difference x y w narrow fits =
    let more : _ = lacking_64 y w narrow fits in
    let parts : x + (2 ^ 64 - y) ≡ x + (2 ^ w - y % 2 ^ w) + more.0 * 2 ^ w = omega (arith, more.1) in
    ap (λ n. n % 2 ^ w) parts ∙ add-mul-mod_self_right (x + (2 ^ w - y % 2 ^ w)) more.0 (2 ^ w)

-- where all 64 bits are turned, the lowest w are
pub cut_complement : (x w : ℕ) → w ≤ 64 → x < 2 ^ 64 → (2 ^ 64 - 1 - x) % 2 ^ w ≡ (2 ^ w - 1 - x % 2 ^ w) % 2 ^ w
cut_complement x w narrow fits =
    let more : _ = lacking_64 x w narrow fits in
    let short : x % 2 ^ w < 2 ^ w = mod_below x (2 ^ w) (pow_pos w) in
    let parts : 2 ^ 64 - 1 - x ≡ 2 ^ w - 1 - x % 2 ^ w + more.0 * 2 ^ w = omega (arith, short, more.1) in
    ap (λ n. n % 2 ^ w) parts ∙ add-mul-mod_self_right (2 ^ w - 1 - x % 2 ^ w) more.0 (2 ^ w)
