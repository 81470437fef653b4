-- A range of bits within the whole bytes that hold it.
use Rattle.std.proofs.Common.{◌≡◌, ℕ, ◌+◌, ◌-◌, ◌*◌, ◌/◌, ◌%◌, ◌^◌, ◌<◌, ◌≤◌, List, get_or, length, take, drop, sym, ap, ◌∙◌, inl, inr, arith, lit<, mod-eq_of_lt, length-take, length-drop, get_or-take, get_or-drop, pow-add, zero-add}
use Rattle.std.proofs.Math.Nat.{pow-le-pow_right}
use Rattle.std.proofs.lemmas.Nat.{one_shl}
use Rattle.std.proofs.lemmas.Bool.{cases_lt}
use Rattle.std.specs.Int.{bit_at}
use Rattle.packet_fields.specs.Bits.{bit_of, spelled, replaced, number_at, with_number_at, Holds}
use Rattle.packet_fields.specs.Fitting.{bit_of-lt, spelled-lt}
use Rattle.packet_fields.proofs.BitRows.{spelled-add, spelled-moved, spelled-middle, spelled-front, spelled-back, spelled-replaced, spelled_before-replaced, spelled_behind-replaced, replaced-lt, byte_of, is_bytes_of}

-- ---- some of the bytes
bit_of-part : (bytes : List ℕ) (first count n : ℕ) → n < 8 * count → bit_of (take count (drop first bytes)) n ≡ bit_of bytes (8 * first + n)
unfolding bit_of
bit_of-part bytes first count n below =
    let place : first + n / 8 ≡ (8 * first + n) / 8 = omega arith in
    let bit : 7 - n % 8 ≡ 7 - (8 * first + n) % 8 = omega arith in
    let byte : get_or (take count (drop first bytes)) (n / 8) 0 ≡ get_or bytes (first + n / 8) 0 = get_or-take count (drop first bytes) (n / 8) 0 (omega arith) ∙ get_or-drop first bytes (n / 8) 0 in
    ap (λ x. bit_at x (7 - n % 8)) (byte ∙ ap (λ x. get_or bytes x 0) place) ∙ ap (bit_at (get_or bytes ((8 * first + n) / 8) 0)) bit

number_at-part : (bytes : List ℕ) (first end : ℕ) → first ≤ end → end ≤ length bytes → let part = take (end - first) (drop first bytes) in number_at part 0 (8 * length part) ≡ number_at bytes (8 * first) (8 * (end - first))
number_at-part bytes first end order within =
    let part : List ℕ = take (end - first) (drop first bytes) in
    let len : length part ≡ end - first = simp (length-take, length-drop) (omega arith) in
    ap (λ x. number_at part 0 (8 * x)) len
    ∙ spelled-moved (bit_of part) (bit_of bytes) 0 (8 * first) (8 * (end - first)) (λ n below. ap (bit_of part) (zero-add n) ∙ bit_of-part bytes first (end - first) n below)

-- a number is that of all bits of the window
abbrev pub IsWhole : List ℕ → ℕ → ℕ → ℕ → Type 0
IsWhole bytes first end all = all ≡ number_at (take (end - first) (drop first bytes)) 0 (8 * length (take (end - first) (drop first bytes)))

-- the number of a window, by what stands before the range, in it, and behind it
sum_of_parts : (row : ℕ → ℕ) (first end behind start width : ℕ) → Holds first end behind start width
    → spelled row (8 * first) (8 * (end - first)) ≡ spelled row (8 * first) (start - 8 * first) * (2 ^ behind * 2 ^ width) + spelled row start width * 2 ^ behind + spelled row (start + width) behind
sum_of_parts row first end behind start width h =
    let before : ℕ = start - 8 * first in
    let outer : spelled row (8 * first) (before + width + behind) ≡ spelled row (8 * first) (before + width) * 2 ^ behind + spelled row (8 * first + (before + width)) behind = spelled-add row (8 * first) (before + width) behind in
    let inner : spelled row (8 * first) (before + width) ≡ spelled row (8 * first) before * 2 ^ width + spelled row (8 * first + before) width = spelled-add row (8 * first) before width in
    let middle : spelled row (8 * first + before) width ≡ spelled row start width = ap (λ x. spelled row x width) (omega arith) in
    let last : spelled row (8 * first + (before + width)) behind ≡ spelled row (start + width) behind = ap (λ x. spelled row x behind) (omega arith) in
    ap (spelled row (8 * first)) (omega arith) ∙ outer
    ∙ ap (λ x. x * 2 ^ behind + spelled row (8 * first + (before + width)) behind) (inner ∙ ap (λ x. spelled row (8 * first) before * 2 ^ width + x) middle)
    ∙ omega (arith, last)

number_in_window : (row : ℕ → ℕ) (first end behind start width : ℕ) → Holds first end behind start width → ((n : ℕ) → row n < 2) → spelled row (8 * first) (8 * (end - first)) < 2 ^ 56
number_in_window row first end behind start width h bits =
    let most : 2 ^ (8 * (end - first)) ≤ 2 ^ 56 = pow-le-pow_right (lit< tt) {j = 56} h.short in
    let small : spelled row (8 * first) (8 * (end - first)) < 2 ^ (8 * (end - first)) = spelled-lt row (8 * first) (8 * (end - first)) bits in
    omega (arith, most, small)

-- ---- reading
pub number_read : (bytes : List ℕ) (first end behind start width all : ℕ) → Holds first end behind start width → width ≤ 48 → end ≤ length bytes → IsWhole bytes first end all
    → all / 2 ^ behind % (1 * 2 ^ width % 2 ^ 64) ≡ number_at bytes start width
number_read bytes first end behind start width all h narrow within is =
    let before : ℕ = start - 8 * first in
    ap (λ x. all / 2 ^ behind % x) (one_shl width 64 (omega arith))
    ∙ ap (λ x. x / 2 ^ behind % 2 ^ width) (is ∙ number_at-part bytes first end (omega arith) within ∙ ap (number_at bytes (8 * first)) (omega arith))
    ∙ spelled-middle (bit_of bytes) (8 * first) before width behind (bit_of-lt bytes)
    ∙ ap (λ x. number_at bytes x width) (omega arith)

-- ---- writing
-- the window's number with another number in the range, as it is computed in 64 bits
pub number_written : (bytes : List ℕ) (first end behind start width all value : ℕ) → Holds first end behind start width → end ≤ length bytes → value < 2 ^ width → IsWhole bytes first end all
    → let number = all / 2 ^ (behind + width) * 2 ^ (behind + width) % 2 ^ 64 + value * 2 ^ behind % 2 ^ 64 + all % (1 * 2 ^ behind % 2 ^ 64) in
    (number ≡ spelled (replaced (bit_of bytes) start width value) (8 * first) (8 * (end - first))) × (number < 2 ^ 56)
number_written bytes first end behind start width all value h within fits is =
    let row : ℕ → ℕ = bit_of bytes in
    let next : ℕ → ℕ = replaced row start width value in
    let before : ℕ = start - 8 * first in
    let whole : all ≡ spelled row (8 * first) (8 * (end - first)) = is ∙ number_at-part bytes first end (omega arith) within in
    let top : all / 2 ^ (behind + width) ≡ spelled row (8 * first) before
    = ap (λ x. x / 2 ^ (behind + width)) (whole ∙ ap (spelled row (8 * first)) (omega arith)) ∙ spelled-front row (8 * first) before (behind + width) (bit_of-lt bytes) in
    let low : all % 2 ^ behind ≡ spelled row (start + width) behind
    = ap (λ x. x % 2 ^ behind) (whole ∙ ap (spelled row (8 * first)) (omega arith)) ∙ spelled-back row (8 * first) (before + width) behind (bit_of-lt bytes) ∙ ap (λ x. spelled row x behind) (omega arith) in
    let shifted_top : all / 2 ^ (behind + width) * 2 ^ (behind + width) ≡ spelled row (8 * first) before * (2 ^ behind * 2 ^ width)
    = ap (λ x. x * 2 ^ (behind + width)) top ∙ ap (λ x. spelled row (8 * first) before * x) (pow-add 2 behind width) in
    let new_top : spelled next (8 * first) before ≡ spelled row (8 * first) before = spelled_before-replaced row start width value (8 * first) before (omega arith) in
    let new_middle : spelled next start width ≡ value = spelled-replaced row start width value fits in
    let new_low : spelled next (start + width) behind ≡ spelled row (start + width) behind = spelled_behind-replaced row start width value (start + width) behind (omega arith) in
    let sum : spelled next (8 * first) (8 * (end - first)) ≡ spelled row (8 * first) before * (2 ^ behind * 2 ^ width) + value * 2 ^ behind + spelled row (start + width) behind
    = sum_of_parts next first end behind start width h ∙ ap (λ x. x * (2 ^ behind * 2 ^ width) + spelled next start width * 2 ^ behind + spelled next (start + width) behind) new_top
    ∙ ap (λ x. spelled row (8 * first) before * (2 ^ behind * 2 ^ width) + x * 2 ^ behind + spelled next (start + width) behind) new_middle ∙ omega (arith, new_low) in
    let small : spelled next (8 * first) (8 * (end - first)) < 2 ^ 56 = number_in_window next first end behind start width h (replaced-lt row start width value (bit_of-lt bytes)) in
    let exact_top : all / 2 ^ (behind + width) * 2 ^ (behind + width) % 2 ^ 64 ≡ all / 2 ^ (behind + width) * 2 ^ (behind + width) = mod-eq_of_lt (omega (arith, shifted_top, sum, small)) in
    let exact_middle : value * 2 ^ behind % 2 ^ 64 ≡ value * 2 ^ behind = mod-eq_of_lt (omega (arith, sum, small)) in
    let exact_low : all % (1 * 2 ^ behind % 2 ^ 64) ≡ all % 2 ^ behind = ap (λ x. all % x) (one_shl behind 64 (omega arith)) in
    (omega (arith, exact_top, exact_middle, exact_low, low, shifted_top, sum), omega (arith, exact_top, exact_middle, exact_low, low, shifted_top, sum, small))

-- what the bytes of the window, written one by one, make of the packet
pub packet_written : (bytes now : List ℕ) (first end behind start width value number : ℕ) → Holds first end behind start width → end ≤ length bytes
    → ((i : ℕ) → get_or now i 0 < 256)
    → number ≡ spelled (replaced (bit_of bytes) start width value) (8 * first) (8 * (end - first))
    → length now ≡ length bytes
    → ((k : ℕ) → first ≤ k → k < end → get_or now k 0 ≡ number / 2 ^ (8 * (end - 1 - k)) % 256)
    → ((k : ℕ) → k < first → get_or now k 0 ≡ get_or bytes k 0)
    → ((k : ℕ) → end ≤ k → get_or now k 0 ≡ get_or bytes k 0)
    → now ≡ with_number_at bytes start width value
packet_written bytes now first end behind start width value number h within small is len inside in_front past =
    let row : ℕ → ℕ = bit_of bytes in
    let next : ℕ → ℕ = replaced row start width value in
    let byte_in_front = λ (k : ℕ) (a : k < first).
    in_front k a ∙ sym (byte_of bytes k (rw (in_front k a) at (small k))) ∙ sym (spelled_before-replaced row start width value (8 * k) 8 (omega arith)) in
    let byte_past = λ (k : ℕ) (a : end ≤ k).
    past k a ∙ sym (byte_of bytes k (rw (past k a) at (small k))) ∙ sym (spelled_behind-replaced row start width value (8 * k) 8 (omega arith)) in
    let byte_inside = λ (k : ℕ) (a : first ≤ k) (b : k < end).
    inside k a b ∙ ap (λ x. x / 2 ^ (8 * (end - 1 - k)) % 256) (is ∙ ap (spelled next (8 * first)) (let cut : 8 * (end - first) ≡ 8 * (k - first) + 8 + 8 * (end - 1 - k) = omega arith in cut))
    ∙ spelled-middle next (8 * first) (8 * (k - first)) 8 (8 * (end - 1 - k)) (replaced-lt row start width value (bit_of-lt bytes)) ∙ ap (λ x. spelled next x 8) (omega arith) in
    is_bytes_of next now (length bytes) len
    (λ k below. elim (cases_lt k first) [ inl a ↦ byte_in_front k a | inr a ↦ elim (cases_lt k end) [ inl b ↦ byte_inside k a b | inr b ↦ byte_past k b ] ])
