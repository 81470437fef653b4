-- How many keys are greater than one, and the order of keys.
use Rattle.std.proofs.Common.{◌≡◌, ℕ, ◌+◌, ◌*◌, ◌-◌, ◌/◌, ◌%◌, ◌^◌, ◌≤◌, ◌<◌, inl, inr, true, ltb, List, [], ◌∷◌, drop, refl, ◌∙◌, arith}
use Rattle.std.specs.Prelude.{slice_index}
use Rattle.std.specs.declared.cmp.Ordering.TheVariants.{Less, Greater}
use Rattle.std.proofs.lemmas.Bool.{and_parts}
use Rattle.std.proofs.lemmas.Nat.{pow_pos}
use Rattle.std.proofs.Math.Nat.{mul-le-mul_left, mul_comm, mul_assoc, mod-lt, div-add-mod, div-lt_iff_lt-mul, mul-le-mul_right}
use Rattle.std.proofs.lemmas.Bool.Decides.{nat_tests}
use Rattle.state_store.specs.Kept.{have_widths}
use Rattle.state_store.specs.Store.{key_cmp}
use Rattle.report_text.specs.Form.{are_widths}
use Rattle.report_text.specs.Parse.{most_of}
use Rattle.report_text.specs.Machine.{keys_above}
use Rattle.report_text.proofs.RowLines.{is_width, most_is, width_small}
use Rattle.lemmas.proofs.Numbers.{below_same_above, cmp_equal, cmp_greater, cmp_less}

-- ---- more by the numbers in front is more

stepped : (p g h d e : ℕ) → g < h → d < p → g * p + d < h * p + e
stepped p g h d e less small =
    let up : (g + 1) * p ≤ h * p = mul-le-mul_right p (omega arith) in
    let one : (g + 1) * p ≡ g * p + p = grind arith in
    omega (arith, up, one)

level : (p g h d e : ℕ) → g ≤ h → d ≤ e → g * p + d ≤ h * p + e
level p g h d e less small = let up : g * p ≤ h * p = mul-le-mul_right p less in omega (arith, up)

pub in_front_less : (ws a b : List ℕ) (g h : ℕ) → are_widths ws ≡ true → g < h → keys_above g ws a < keys_above h ws b
in_front_less [] a b g h wide less = less
in_front_less (w ∷ ws) a b g h wide less =
    let wp = and_parts (is_width w) (are_widths ws) wide in
    let small : most_of w - slice_index a 0 < 2 ^ w = omega (arith, most_is w (width_small w wp.0)) in
    in_front_less ws (drop 1 a) (drop 1 b) (g * 2 ^ w + (most_of w - slice_index a 0)) (h * 2 ^ w + (most_of w - slice_index b 0)) wp.1
    (stepped (2 ^ w) g h (most_of w - slice_index a 0) (most_of w - slice_index b 0) less small)

-- the first key has the most that are greater
pub first_most : (ws key : List ℕ) (g h : ℕ) → g ≤ h → keys_above g ws key ≤ keys_above h ws []
first_most [] key g h less = less
first_most (w ∷ ws) key g h less =
    first_most ws (drop 1 key) (g * 2 ^ w + (most_of w - slice_index key 0)) (h * 2 ^ w + (most_of w - 0))
    (level (2 ^ w) g h (most_of w - slice_index key 0) (most_of w - 0) less (omega arith))

-- ---- a greater key has fewer above it

pub fewer_above : (ws a b : List ℕ) (g : ℕ) → are_widths ws ≡ true → have_widths ws a ≡ true → have_widths ws b ≡ true → key_cmp a b ≡ Less → keys_above g ws b < keys_above g ws a
fewer_above (w ∷ ws) (x ∷ a) (y ∷ b) g wide ha hb h =
    let wp = and_parts (is_width w) (are_widths ws) wide in
    let hap = and_parts (ltb x (2 ^ w)) (have_widths ws a) ha in
    let hbp = and_parts (ltb y (2 ^ w)) (have_widths ws b) hb in
    let most = most_is w (width_small w wp.0) in
    let inside : y < 2 ^ w = grind (arith, nat_tests, hbp.0) in
    elim (below_same_above x y) [
      | inl less ↦ in_front_less ws b a (g * 2 ^ w + (most_of w - y)) (g * 2 ^ w + (most_of w - x)) wp.1 (omega (arith, less, inside, most))
      | inr (inl e) ↦
          let same : key_cmp a b ≡ Less = rw (e, cmp_equal y) at h in
          rw e (fewer_above ws a b (g * 2 ^ w + (most_of w - y)) wp.1 hap.1 hbp.1 same)
      | inr (inr more) ↦ let wrong : Greater ≡ Less = rw (cmp_greater x y more) at h in cc wrong
    ]
fewer_above [] [] [] g wide ha hb h = cc
fewer_above _ _ _ g wide ha hb h = cc

-- and a key with fewer above it is greater
pub less_of : (ws a b : List ℕ) (g : ℕ) → are_widths ws ≡ true → have_widths ws a ≡ true → have_widths ws b ≡ true → keys_above g ws b < keys_above g ws a → key_cmp a b ≡ Less
less_of [] a b g wide ha hb h = absurd (omega (arith, h))
less_of (w ∷ ws) (x ∷ a) (y ∷ b) g wide ha hb h =
    let wp = and_parts (is_width w) (are_widths ws) wide in
    let hap = and_parts (ltb x (2 ^ w)) (have_widths ws a) ha in
    let hbp = and_parts (ltb y (2 ^ w)) (have_widths ws b) hb in
    let most = most_is w (width_small w wp.0) in
    let inside : x < 2 ^ w = grind (arith, nat_tests, hap.0) in
    elim (below_same_above x y) [
      | inl less ↦ rw (cmp_less x y less) refl
      | inr (inl e) ↦ rw (e, cmp_equal y) (less_of ws a b (g * 2 ^ w + (most_of w - y)) wp.1 hap.1 hbp.1 (rw e at h))
      | inr (inr more) ↦
          absurd (omega (arith, h, in_front_less ws a b (g * 2 ^ w + (most_of w - x)) (g * 2 ^ w + (most_of w - y)) wp.1 (omega (arith, more, inside, most))))
    ]
less_of _ _ _ g wide ha hb h = cc

-- ---- there is a key with so many above it

-- how many keys there are
abbrev pub size : List ℕ → ℕ
size [] = 1
size (w ∷ ws) = 2 ^ w * size ws

times_pos : (a b : ℕ) → 0 < a → 0 < b → 0 < a * b
times_pos a b ha hb = let up : a * 1 ≤ a * b = mul-le-mul_left a (omega arith) in omega (arith, up, ha)

size_pos : (ws : List ℕ) → 0 < size ws
size_pos [] = omega arith
size_pos (w ∷ ws) = times_pos (2 ^ w) (size ws) (pow_pos w) (size_pos ws)

spread : (g p d s : ℕ) → (g * p + d) * s ≡ g * (p * s) + d * s
spread g p d s = grind arith

by_size : (ws key : List ℕ) (g : ℕ) → keys_above g ws key ≡ g * size ws + keys_above 0 ws key
by_size [] key g = omega arith
by_size (w ∷ ws) key g =
    let d = most_of w - slice_index key 0 in
    let one = by_size ws (drop 1 key) (g * 2 ^ w + d) in
    let two = by_size ws (drop 1 key) (0 * 2 ^ w + d) in
    let gs = spread g (2 ^ w) d (size ws) in
    let zs = spread 0 (2 ^ w) d (size ws) in
    omega (arith, one, two, gs, zs)

abbrev pub key_with : List ℕ → ℕ → List ℕ
key_with [] n = []
key_with (w ∷ ws) n = (most_of w - n / size ws) ∷ key_with ws (n % size ws)

pub key_fits : (ws : List ℕ) (n : ℕ) → are_widths ws ≡ true → have_widths ws (key_with ws n) ≡ true
key_fits [] n wide = refl
key_fits (w ∷ ws) n wide =
    let wp = and_parts (is_width w) (are_widths ws) wide in
    let small : most_of w - n / size ws < 2 ^ w = omega (arith, most_is w (width_small w wp.0)) in
    let t : ltb (most_of w - n / size ws) (2 ^ w) ≡ true = grind (arith, nat_tests) in
    rw (t, key_fits ws (n % size ws) wp.1) refl

pub key_above : (ws : List ℕ) (n : ℕ) → are_widths ws ≡ true → n < size ws → keys_above 0 ws (key_with ws n) ≡ n
key_above [] n wide h = omega arith
key_above (w ∷ ws) n wide h =
    let wp = and_parts (is_width w) (are_widths ws) wide in
    let s = size ws in
    let most = most_is w (width_small w wp.0) in
    let inside : n / s < 2 ^ w = (div-lt_iff_lt-mul (size_pos ws)).1 h in
    let rest = key_above ws (n % s) wp.1 (mod-lt n (size_pos ws)) in
    let front : 0 * 2 ^ w + (most_of w - (most_of w - n / s)) ≡ n / s = omega (arith, inside, most) in
    let parts = div-add-mod n s in
    let turned : s * (n / s) ≡ n / s * s = mul_comm s (n / s) in
    rw front (by_size ws (key_with ws (n % s)) (n / s) ∙ omega (arith, rest, parts, turned))

pub above_inside : (ws key : List ℕ) (g : ℕ) → are_widths ws ≡ true → keys_above g ws key < (g + 1) * size ws
above_inside [] key g wide = omega arith
above_inside (w ∷ ws) key g wide =
    let wp = and_parts (is_width w) (are_widths ws) wide in
    let d = most_of w - slice_index key 0 in
    let small : d < 2 ^ w = omega (arith, most_is w (width_small w wp.0)) in
    let ih = above_inside ws (drop 1 key) (g * 2 ^ w + d) wp.1 in
    let c : (g + 1) * 2 ^ w ≡ g * 2 ^ w + 2 ^ w = grind arith in
    let fits : g * 2 ^ w + d + 1 ≤ (g + 1) * 2 ^ w = omega (arith, c, small) in
    let up : (g * 2 ^ w + d + 1) * size ws ≤ (g + 1) * 2 ^ w * size ws = mul-le-mul_right (size ws) fits in
    let e : (g + 1) * 2 ^ w * size ws ≡ (g + 1) * (2 ^ w * size ws) = mul_assoc (g + 1) (2 ^ w) (size ws) in
    omega (arith, ih, up, e)
