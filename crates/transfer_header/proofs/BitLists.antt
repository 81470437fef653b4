-- Laws of lists of bits, and of the bytes that hold them.
use Rattle.std.proofs.Common.{◌≡◌, ℕ, zero, suc, ◌+◌, ◌-◌, ◌*◌, ◌/◌, ◌%◌, ◌^◌, ◌<◌, ◌≤◌, List, [], ◌∷◌, ◌++◌, get_or, length, take, drop, replicate, refl, sym, ap, ◌∙◌, subst, inl, inr, arith, lit<, zero-add, pow-suc, length-append, length-take, length-drop, append_assoc}
use Rattle.std.proofs.Math.Nat.{min-eq_left}
use Rattle.std.proofs.lemmas.Bool.{cases_lt}
use Rattle.std.proofs.lemmas.List.{append-nil, get_or_append_left, get_or-append_right, take-append-drop, length-replicate, take_at, drop_at}
use Rattle.std.proofs.lemmas.List.Elements.{All-nil, All-cons, All-head, All-tail, All-append, All-take, All-drop, All-replicate}
use Rattle.std.proofs.lemmas.Nat.{shr-shr, shr_high, mul-le, mod-pow-add}
use Rattle.std.proofs.lemmas.Nat.Bits.{bit_at-lt, bit_at-zero, bit_at_cat_low, bit_at_cat_high}
use Rattle.std.specs.Int.{bit_at}
use Rattle.std.specs.List.{All}
use Rattle.transfer_header.specs.Bits.{bits_of, number_from, bits_in, bytes_for, filled, cut, packed}
use Rattle.lemmas.proofs.Numbers.{bit_at-low}

abbrev pub AreBits : List ℕ → Type 0
AreBits bits = All (λ bit. bit < 2) bits

abbrev pub AreBytes : List ℕ → Type 0
AreBytes bytes = All (λ byte. byte < 256) bytes

-- ---- the bits of a number
pub bits_of-zero : (number : ℕ) → bits_of 0 number ≡ []
unfolding bits_of
bits_of-zero number = refl

pub bits_of-suc : (width number : ℕ) → bits_of (suc width) number ≡ bit_at number width ∷ bits_of width number
unfolding bits_of
bits_of-suc width number = refl

pub length-bits_of : (width number : ℕ) → length (bits_of width number) ≡ width
length-bits_of zero number = ap (λ (x : List ℕ). length x) (bits_of-zero number)
length-bits_of (suc width) number = ap (λ (x : List ℕ). length x) (bits_of-suc width number) ∙ ap suc (length-bits_of width number)

pub are_bits_of : (width number : ℕ) → AreBits (bits_of width number)
are_bits_of zero number = subst AreBits (sym (bits_of-zero number)) (All-nil (λ bit. bit < 2))
are_bits_of (suc width) number = subst AreBits (sym (bits_of-suc width number)) (All-cons (λ bit. bit < 2) (bit_at number width) (bits_of width number) (bit_at-lt number width) (are_bits_of width number))

pub get_or-bits_of : (width number i : ℕ) → i < width → get_or (bits_of width number) i 0 ≡ bit_at number (width - 1 - i)
get_or-bits_of zero number i below = absurd (omega arith)
get_or-bits_of (suc width) number zero below = ap (λ x. get_or x 0 0) (bits_of-suc width number) ∙ ap (bit_at number) (omega arith)
get_or-bits_of (suc width) number (suc i) below = ap (λ x. get_or x (suc i) 0) (bits_of-suc width number) ∙ get_or-bits_of width number i (omega arith) ∙ ap (bit_at number) (omega arith)

pub bits_of-same : (width number other : ℕ) → ((i : ℕ) → i < width → bit_at number i ≡ bit_at other i) → bits_of width number ≡ bits_of width other
bits_of-same zero number other same = bits_of-zero number ∙ sym (bits_of-zero other)
bits_of-same (suc width) number other same =
    bits_of-suc width number
    ∙ ap (λ x. x ∷ bits_of width number) (same width (omega arith))
    ∙ ap (λ x. bit_at other width ∷ x) (bits_of-same width number other (λ i below. same i (omega arith)))
    ∙ sym (bits_of-suc width other)

pub bit_at-shr : (number k i : ℕ) → bit_at (number / 2 ^ k) i ≡ bit_at number (k + i)
bit_at-shr number k i = ap (λ x. x % 2) (shr-shr number k i)

pub bits_of-low : (width number : ℕ) → bits_of width (number % 2 ^ width) ≡ bits_of width number
bits_of-low width number = bits_of-same width (number % 2 ^ width) number (λ i below. bit_at-low number width i below)

-- the highest bits, and those behind them
pub bits_of-add : (u w number : ℕ) → bits_of (u + w) number ≡ bits_of u (number / 2 ^ w) ++ bits_of w number
bits_of-add zero w number = ap (λ x. bits_of x number) (zero-add w) ∙ sym (ap (λ x. x ++ bits_of w number) (bits_of-zero (number / 2 ^ w)))
bits_of-add (suc u) w number =
    let count : suc u + w ≡ suc (u + w) = omega arith in
    let bit : bit_at number (u + w) ≡ bit_at (number / 2 ^ w) u = ap (bit_at number) (omega arith) ∙ sym (bit_at-shr number w u) in
    ap (λ x. bits_of x number) count ∙ bits_of-suc (u + w) number
    ∙ ap (λ x. x ∷ bits_of (u + w) number) bit
    ∙ ap (λ x. bit_at (number / 2 ^ w) u ∷ x) (bits_of-add u w number)
    ∙ sym (ap (λ x. x ++ bits_of w number) (bits_of-suc u (number / 2 ^ w)))

pub bits_of-cat : (u w high low : ℕ) → low < 2 ^ w → bits_of (u + w) (high * 2 ^ w + low) ≡ bits_of u high ++ bits_of w low
bits_of-cat u w high low fits =
    bits_of-add u w (high * 2 ^ w + low)
    ∙ ap (λ x. bits_of u x ++ bits_of w (high * 2 ^ w + low)) (shr_high high w low fits)
    ∙ ap (λ x. bits_of u high ++ x) (bits_of-same w (high * 2 ^ w + low) low (λ i below. bit_at_cat_low high w low i below))

pub bits_of_0 : (width : ℕ) → bits_of width 0 ≡ replicate width 0
bits_of_0 zero = bits_of-zero 0
bits_of_0 (suc width) = bits_of-suc width 0 ∙ ap (λ x. x ∷ bits_of width 0) (bit_at-zero width) ∙ ap (λ x. 0 ∷ x) (bits_of_0 width)

-- ---- the number of some bits
number_from-nil : number_from [] ≡ 0
unfolding number_from
number_from-nil = refl

number_from-cons : (bit : ℕ) (bits : List ℕ) → number_from (bit ∷ bits) ≡ bit * 2 ^ length bits + number_from bits
unfolding number_from
number_from-cons bit bits = refl

pub number_from-bits_of : (width number : ℕ) → number_from (bits_of width number) ≡ number % 2 ^ width
number_from-bits_of zero number = ap number_from (bits_of-zero number) ∙ number_from-nil ∙ omega arith
number_from-bits_of (suc width) number =
    let parts : number % 2 ^ (1 + width) ≡ bit_at number width * 2 ^ width + number % 2 ^ width = mod-pow-add number 1 width in
    let count : 1 + width ≡ suc width = omega arith in
    ap number_from (bits_of-suc width number) ∙ number_from-cons (bit_at number width) (bits_of width number)
    ∙ ap (λ x. bit_at number width * 2 ^ x + number_from (bits_of width number)) (length-bits_of width number)
    ∙ ap (λ x. bit_at number width * 2 ^ width + x) (number_from-bits_of width number)
    ∙ sym parts ∙ ap (λ x. number % 2 ^ x) count

pub number_from-lt : (bits : List ℕ) → AreBits bits → number_from bits < 2 ^ length bits
number_from-lt [] are = omega (arith, number_from-nil)
number_from-lt (bit ∷ bits) are =
    let first : bit < 2 = All-head (λ bit. bit < 2) bit bits are in
    let most : bit * 2 ^ length bits ≤ 1 * 2 ^ length bits = mul-le bit (2 ^ length bits) 1 (2 ^ length bits) (omega arith) (omega arith) in
    let rest : number_from bits < 2 ^ length bits = number_from-lt bits (All-tail (λ bit. bit < 2) bit bits are) in
    omega (arith, number_from-cons bit bits, most, rest, pow-suc 2 (length bits))

one_bit : (bit k : ℕ) → bit < 2 → bit_at bit (k - k) ≡ bit
one_bit bit k fits = let none : k - k ≡ 0 = omega arith in let first : bit_at bit 0 ≡ bit = omega arith in ap (bit_at bit) none ∙ first

pub bits_of-number_from : (bits : List ℕ) → AreBits bits → bits_of (length bits) (number_from bits) ≡ bits
bits_of-number_from [] are = bits_of-zero (number_from [])
bits_of-number_from (bit ∷ bits) are =
    let first : bit < 2 = All-head (λ bit. bit < 2) bit bits are in
    let others : AreBits bits = All-tail (λ bit. bit < 2) bit bits are in
    let rest : number_from bits < 2 ^ length bits = number_from-lt bits others in
    let l : ℕ = length bits in
    let whole : ℕ = bit * 2 ^ l + number_from bits in
    let top : bit_at whole l ≡ bit = bit_at_cat_high bit l (number_from bits) l rest (omega arith) ∙ one_bit bit l first in
    let low : bits_of l whole ≡ bits = bits_of-same l whole (number_from bits) (λ i below. bit_at_cat_low bit l (number_from bits) i below) ∙ bits_of-number_from bits others in
    ap (bits_of (suc l)) (number_from-cons bit bits) ∙ bits_of-suc l whole ∙ ap (λ x. x ∷ bits_of l whole) top ∙ ap (λ x. bit ∷ x) low

-- ---- the bits of bytes
pub bits_in-nil : bits_in [] ≡ []
unfolding bits_in
bits_in-nil = refl

pub bits_in-cons : (byte : ℕ) (bytes : List ℕ) → bits_in (byte ∷ bytes) ≡ bits_of 8 byte ++ bits_in bytes
unfolding bits_in
bits_in-cons byte bytes = refl

pub length-bits_in : (bytes : List ℕ) → length (bits_in bytes) ≡ 8 * length bytes
length-bits_in [] = ap (λ (x : List ℕ). length x) bits_in-nil ∙ omega arith
length-bits_in (byte ∷ bytes) =
    ap (λ (x : List ℕ). length x) (bits_in-cons byte bytes) ∙ length-append (bits_of 8 byte) (bits_in bytes)
    ∙ omega (arith, length-bits_of 8 byte, length-bits_in bytes)

pub bits_in-append : (bytes others : List ℕ) → bits_in (bytes ++ others) ≡ bits_in bytes ++ bits_in others
bits_in-append [] others = sym (ap (λ x. x ++ bits_in others) bits_in-nil)
bits_in-append (byte ∷ bytes) others =
    bits_in-cons byte (bytes ++ others) ∙ ap (λ x. bits_of 8 byte ++ x) (bits_in-append bytes others)
    ∙ sym (append_assoc (bits_of 8 byte) (bits_in bytes) (bits_in others))
    ∙ sym (ap (λ x. x ++ bits_in others) (bits_in-cons byte bytes))

pub bits_in-push : (bytes : List ℕ) (byte : ℕ) → bits_in (bytes ++ byte ∷ []) ≡ bits_in bytes ++ bits_of 8 byte
bits_in-push bytes byte =
    bits_in-append bytes (byte ∷ [])
    ∙ ap (λ x. bits_in bytes ++ x) (bits_in-cons byte [] ∙ ap (λ x. bits_of 8 byte ++ x) bits_in-nil ∙ append-nil (bits_of 8 byte))

pub get_or-bits_in : (bytes : List ℕ) (i : ℕ) → i < 8 * length bytes → get_or (bits_in bytes) i 0 ≡ bit_at (get_or bytes (i / 8) 0) (7 - i % 8)
get_or-bits_in [] i within = absurd (omega arith)
get_or-bits_in (byte ∷ bytes) i within =
    ap (λ x. get_or x i 0) (bits_in-cons byte bytes)
    ∙ elim (cases_lt i 8) as (λ _. get_or (bits_of 8 byte ++ bits_in bytes) i 0 ≡ bit_at (get_or (byte ∷ bytes) (i / 8) 0) (7 - i % 8)) [
      | inl here ↦ let first : 0 ≡ i / 8 = omega arith in
          get_or_append_left (bits_of 8 byte) (bits_in bytes) 0 i (omega (arith, length-bits_of 8 byte))
          ∙ get_or-bits_of 8 byte i here
          ∙ ap (bit_at byte) (omega arith)
          ∙ ap (λ x. bit_at (get_or (byte ∷ bytes) x 0) (7 - i % 8)) first
      | inr past ↦ let later : suc ((i - 8) / 8) ≡ i / 8 = omega arith in
          get_or-append_right (bits_of 8 byte) (bits_in bytes) 8 i 0 (length-bits_of 8 byte) past
          ∙ get_or-bits_in bytes (i - 8) (omega arith)
          ∙ ap (bit_at (get_or bytes ((i - 8) / 8) 0)) (omega arith)
          ∙ ap (λ x. bit_at (get_or (byte ∷ bytes) x 0) (7 - i % 8)) later
    ]

pub are_bits_in : (bytes : List ℕ) → AreBits (bits_in bytes)
are_bits_in [] = subst AreBits (sym bits_in-nil) (All-nil (λ bit. bit < 2))
are_bits_in (byte ∷ bytes) = subst AreBits (sym (bits_in-cons byte bytes)) (All-append (λ bit. bit < 2) (bits_of 8 byte) (bits_in bytes) (are_bits_of 8 byte) (are_bits_in bytes))

-- bytes with the same bits are the same
same_byte : (byte other : ℕ) → byte < 256 → other < 256 → bits_of 8 byte ≡ bits_of 8 other → byte ≡ other
same_byte byte other fits fits' same =
    let one : number_from (bits_of 8 byte) ≡ byte % 2 ^ 8 = number_from-bits_of 8 byte in
    let two : number_from (bits_of 8 other) ≡ other % 2 ^ 8 = number_from-bits_of 8 other in
    omega (arith, one, two, ap number_from same)

pub same_bytes : (bytes others : List ℕ) → AreBytes bytes → AreBytes others → bits_in bytes ≡ bits_in others → bytes ≡ others
same_bytes [] [] are are' same = refl
same_bytes [] (other ∷ others) are are' same = absurd (omega (arith, length-bits_in [], length-bits_in (other ∷ others), ap (λ (x : List ℕ). length x) same))
same_bytes (byte ∷ bytes) [] are are' same = absurd (omega (arith, length-bits_in [], length-bits_in (byte ∷ bytes), ap (λ (x : List ℕ). length x) same))
same_bytes (byte ∷ bytes) (other ∷ others) are are' same =
    let both : bits_of 8 byte ++ bits_in bytes ≡ bits_of 8 other ++ bits_in others = sym (bits_in-cons byte bytes) ∙ same ∙ bits_in-cons other others in
    let first : bits_of 8 byte ≡ bits_of 8 other = sym (take_at (bits_of 8 byte) (bits_in bytes) 8 (length-bits_of 8 byte)) ∙ ap (take 8) both ∙ take_at (bits_of 8 other) (bits_in others) 8 (length-bits_of 8 other) in
    let rest : bits_in bytes ≡ bits_in others = sym (drop_at (bits_of 8 byte) (bits_in bytes) 8 (length-bits_of 8 byte)) ∙ ap (drop 8) both ∙ drop_at (bits_of 8 other) (bits_in others) 8 (length-bits_of 8 other) in
    ap (λ x. x ∷ bytes) (same_byte byte other (All-head (λ byte. byte < 256) byte bytes are) (All-head (λ byte. byte < 256) other others are') first)
    ∙ ap (λ (x : List ℕ). other ∷ x) (same_bytes bytes others (All-tail (λ byte. byte < 256) byte bytes are) (All-tail (λ byte. byte < 256) other others are') rest)

-- ---- bits cut into bytes
cut-zero : (bits : List ℕ) → cut 0 bits ≡ []
unfolding cut
cut-zero bits = refl

cut-suc : (bytes : ℕ) (bits : List ℕ) → cut (suc bytes) bits ≡ number_from (take 8 bits) ∷ cut bytes (drop 8 bits)
unfolding cut
cut-suc bytes bits = refl

pub length-cut : (bytes : ℕ) (bits : List ℕ) → length (cut bytes bits) ≡ bytes
length-cut zero bits = ap (λ (x : List ℕ). length x) (cut-zero bits)
length-cut (suc bytes) bits = ap (λ (x : List ℕ). length x) (cut-suc bytes bits) ∙ ap suc (length-cut bytes (drop 8 bits))

no_items : (bits : List ℕ) → length bits ≡ 0 → bits ≡ []
no_items [] len = refl
no_items (bit ∷ bits) len = absurd (omega arith)

first_eight : (bytes : ℕ) (bits : List ℕ) → length bits ≡ 8 * suc bytes → length (take 8 bits) ≡ 8
first_eight bytes bits len = length-take 8 bits ∙ min-eq_left (omega arith)

pub bits_in-cut : (bytes : ℕ) (bits : List ℕ) → AreBits bits → length bits ≡ 8 * bytes → bits_in (cut bytes bits) ≡ bits
bits_in-cut zero bits are len = ap bits_in (cut-zero bits) ∙ bits_in-nil ∙ sym (no_items bits (omega arith))
bits_in-cut (suc bytes) bits are len =
    let front : AreBits (take 8 bits) = All-take (λ bit. bit < 2) 8 bits are in
    let back : AreBits (drop 8 bits) = All-drop (λ bit. bit < 2) 8 bits are in
    let eight : length (take 8 bits) ≡ 8 = first_eight bytes bits len in
    let first : bits_of 8 (number_from (take 8 bits)) ≡ take 8 bits = ap (λ k. bits_of k (number_from (take 8 bits))) (sym eight) ∙ bits_of-number_from (take 8 bits) front in
    let rest : bits_in (cut bytes (drop 8 bits)) ≡ drop 8 bits = bits_in-cut bytes (drop 8 bits) back (length-drop 8 bits ∙ omega arith) in
    ap bits_in (cut-suc bytes bits) ∙ bits_in-cons (number_from (take 8 bits)) (cut bytes (drop 8 bits))
    ∙ ap (λ x. x ++ bits_in (cut bytes (drop 8 bits))) first ∙ ap (λ x. take 8 bits ++ x) rest ∙ take-append-drop 8 bits

pub are_bytes-cut : (bytes : ℕ) (bits : List ℕ) → AreBits bits → length bits ≡ 8 * bytes → AreBytes (cut bytes bits)
are_bytes-cut zero bits are len = subst AreBytes (sym (cut-zero bits)) (All-nil (λ byte. byte < 256))
are_bytes-cut (suc bytes) bits are len =
    let eight : length (take 8 bits) ≡ 8 = first_eight bytes bits len in
    let fits : number_from (take 8 bits) < 2 ^ 8 = subst (λ k. number_from (take 8 bits) < 2 ^ k) eight (number_from-lt (take 8 bits) (All-take (λ bit. bit < 2) 8 bits are)) in
    subst AreBytes (sym (cut-suc bytes bits))
    (All-cons (λ byte. byte < 256) (number_from (take 8 bits)) (cut bytes (drop 8 bits)) (omega (arith, fits)) (are_bytes-cut bytes (drop 8 bits) (All-drop (λ bit. bit < 2) 8 bits are) (length-drop 8 bits ∙ omega arith)))

pub are_bits-filled : (bits : List ℕ) → AreBits bits → AreBits (filled bits)
are_bits-filled bits are = All-append (λ bit. bit < 2) bits _ are (All-replicate (λ bit. bit < 2) (8 * bytes_for (length bits) - length bits) 0 (lit< tt))

pub length-filled : (bits : List ℕ) → length (filled bits) ≡ 8 * bytes_for (length bits)
length-filled bits =
    let fill : ℕ = 8 * bytes_for (length bits) - length bits in
    length-append bits (replicate fill 0) ∙ omega (arith, length-replicate {A = ℕ} fill 0)

pub bits_in-packed : (bits : List ℕ) → AreBits bits → bits_in (packed bits) ≡ filled bits
bits_in-packed bits are = bits_in-cut (bytes_for (length bits)) (filled bits) (are_bits-filled bits are) (length-filled bits)

-- the bytes whose bits are these, with fewer than eight zeros behind them, are those that hold them
pub is_packed : (bytes bits : List ℕ) (fill : ℕ) → AreBytes bytes → AreBits bits → fill < 8 → bits_in bytes ≡ bits ++ replicate fill 0 → bytes ≡ packed bits
is_packed bytes bits fill are are' short same =
    let len : 8 * length bytes ≡ length bits + fill = sym (length-bits_in bytes) ∙ ap (λ (x : List ℕ). length x) same ∙ length-append bits (replicate fill 0) ∙ omega (arith, length-replicate {A = ℕ} fill 0) in
    let fills : fill ≡ 8 * bytes_for (length bits) - length bits = omega arith in
    same_bytes bytes (packed bits) are (are_bytes-cut (bytes_for (length bits)) (filled bits) (are_bits-filled bits are') (length-filled bits))
    (same ∙ ap (λ x. bits ++ replicate x 0) fills ∙ sym (bits_in-packed bits are'))

-- behind whole bytes
pub packed_behind : (bytes bits : List ℕ) → AreBytes bytes → AreBits bits → packed (bits_in bytes ++ bits) ≡ bytes ++ packed bits
packed_behind bytes bits are are' =
    let fill : ℕ = 8 * bytes_for (length bits) - length bits in
    sym (is_packed (bytes ++ packed bits) (bits_in bytes ++ bits) fill
    (All-append (λ byte. byte < 256) bytes (packed bits) are (are_bytes-cut (bytes_for (length bits)) (filled bits) (are_bits-filled bits are') (length-filled bits)))
    (All-append (λ bit. bit < 2) (bits_in bytes) bits (are_bits_in bytes) are')
    (omega arith)
    (bits_in-append bytes (packed bits) ∙ ap (λ x. bits_in bytes ++ x) (bits_in-packed bits are') ∙ sym (append_assoc (bits_in bytes) bits (replicate fill 0))))
