-- Bits that are put behind others, and bits that are read, a part of a byte at a time.
use Rattle.std.proofs.Common.{◌≡◌, ℕ, ◌+◌, ◌-◌, ◌*◌, ◌/◌, ◌%◌, ◌^◌, ◌<◌, ◌≤◌, ◌==◌, true, List, [], ◌∷◌, ◌++◌, get_or, length, take, drop, replicate, sym, ap, ◌∙◌, subst, arith, lit<, length-append, length-take, length-drop, get_or-take, get_or-drop, append_assoc, mod-eq_of_lt}
use Rattle.std.proofs.Math.Nat.{min-eq_left, pow-le-pow_right}
use Rattle.std.proofs.Math.Seq.{take-add}
use Rattle.std.proofs.lemmas.Bool.{eqb-true}
use Rattle.std.proofs.lemmas.List.{append-nil, ext_get_or, take_all, drop-drop}
use Rattle.std.proofs.lemmas.List.Elements.{All-append, All-push}
use Rattle.std.proofs.lemmas.Nat.{pow-add, pow_pos, mod_below, one_shl, shl_whole, mul-add-lt}
use Rattle.std.specs.Int.{bit_at}
use Rattle.transfer_header.specs.Bits.{Written, bits_of, number_from, bits_in, packed}
use Rattle.transfer_header.proofs.BitLists.{AreBits, AreBytes, bits_of-zero, length-bits_of, are_bits_of, get_or-bits_of, bit_at-shr, bits_of-low, bits_of-add, bits_of-cat, bits_of_0, number_from-bits_of, length-bits_in, bits_in-push, get_or-bits_in, are_bits_in, is_packed}

-- ---- numbers side by side
-- a number with so many bits of another behind it, as it is computed in 64 bits
pub side_by_side : (u w high low : ℕ) → high < 2 ^ u → low < 2 ^ w → u + w ≤ 64 → (high * 2 ^ w % 2 ^ 64 + low ≡ high * 2 ^ w + low) × (high * 2 ^ w % 2 ^ 64 + low < 2 ^ (u + w)) × (high * 2 ^ w % 2 ^ 64 + low < 2 ^ 64)
side_by_side u w high low fits fits' room =
    let whole : high * 2 ^ w % 2 ^ 64 ≡ high * 2 ^ w = shl_whole high u w 64 fits room in
    let small : high * 2 ^ w + low < 2 ^ w * 2 ^ u = mul-add-lt high (2 ^ w) low (2 ^ u) fits fits' in
    let power : 2 ^ (u + w) ≡ 2 ^ u * 2 ^ w = pow-add 2 u w in
    let most : 2 ^ (u + w) ≤ 2 ^ 64 = pow-le-pow_right (lit< tt) {j = 64} room in
    (ap (λ x. x + low) whole, omega (arith, whole, small, power), omega (arith, whole, small, power, most))

-- ---- putting
-- the bits that a writer holds are its view
pub record HoldsBits (bytes : List ℕ) (count held : ℕ) (view : List ℕ) : Type 0 where
  pub is : bits_in bytes ++ bits_of count held ≡ view
  pub short : count < 8
  pub small : held < 2 ^ count
  pub are : AreBytes bytes

pub shown : (bytes : List ℕ) (count held len room : ℕ) (view : Written) → record { bits = bits_in bytes ++ bits_of count held; capacity = room } ≡ view
    → (count < 8) × (held < 2 ^ count) × AreBytes bytes × (8 * len + count ≤ 8 * room) → HoldsBits bytes count held view.bits
shown bytes count held len room view is inv = record { is = ap (λ (w : Written). w.bits) is; short = inv.0; small = inv.1; are = inv.2 }

pub length-shown : (bytes : List ℕ) (count held : ℕ) (view : List ℕ) → HoldsBits bytes count held view → length view ≡ 8 * length bytes + count
length-shown bytes count held view s =
    sym (ap (λ (x : List ℕ). length x) s.is) ∙ length-append (bits_in bytes) (bits_of count held) ∙ omega (arith, length-bits_in bytes, length-bits_of count held)

pub are_shown : (bytes : List ℕ) (count held : ℕ) (view : List ℕ) → HoldsBits bytes count held view → AreBits view
are_shown bytes count held view s = subst AreBits s.is (All-append (λ bit. bit < 2) (bits_in bytes) (bits_of count held) (are_bits_in bytes) (are_bits_of count held))

pub none_held : (bytes : List ℕ) → bits_in bytes ++ bits_of 0 0 ≡ bits_in bytes
none_held bytes = ap (λ x. bits_in bytes ++ x) (bits_of-zero 0) ∙ append-nil (bits_in bytes)

-- memory for the bits is memory for the bytes
pub has_room : (bytes : List ℕ) (count held width capacity : ℕ) (view : List ℕ) → HoldsBits bytes count held view → length view + width ≤ 8 * capacity → 8 * length bytes + (count + width) ≤ 8 * capacity
has_room bytes count held width capacity view s within = omega (arith, length-shown bytes count held view s)

-- the bits of a part behind those that are held, as they are computed
pub part_held : (count held width number : ℕ) → held < 2 ^ count → width < 64 → count + width ≤ 64
    → let next = held * 2 ^ width % 2 ^ 64 + number % (1 * 2 ^ width % 2 ^ 64) in (next ≡ held * 2 ^ width + number % 2 ^ width) × (next < 2 ^ 64)
part_held count held width number small short room =
    let cut : number % (1 * 2 ^ width % 2 ^ 64) ≡ number % 2 ^ width = ap (λ x. number % x) (one_shl width 64 short) in
    let low : number % 2 ^ width < 2 ^ width = mod_below number (2 ^ width) (pow_pos width) in
    let joined = side_by_side count width held (number % 2 ^ width) small low room in
    (omega (arith, cut, joined.0), omega (arith, cut, joined.2))

-- and bytes that they were pushed into, with those that are left
pub part_put : (bytes next : List ℕ) (count held width number left : ℕ) (view : List ℕ) → HoldsBits bytes count held view → width < 64 → count + width ≤ 64 → left < 8
    → let all = held * 2 ^ width % 2 ^ 64 + number % (1 * 2 ^ width % 2 ^ 64) in bits_in next ++ bits_of left all ≡ bits_in bytes ++ bits_of (count + width) all
    → bits_in next ++ bits_of left (all % (1 * 2 ^ left % 2 ^ 64)) ≡ view ++ bits_of width number
part_put bytes next count held width number left view s short room few pushed =
    let all : ℕ = held * 2 ^ width % 2 ^ 64 + number % (1 * 2 ^ width % 2 ^ 64) in
    let low : number % 2 ^ width < 2 ^ width = mod_below number (2 ^ width) (pow_pos width) in
    ap (λ x. bits_in next ++ bits_of left (all % x)) (one_shl left 64 (omega arith))
    ∙ ap (λ x. bits_in next ++ x) (bits_of-low left all)
    ∙ pushed
    ∙ ap (λ x. bits_in bytes ++ bits_of (count + width) x) (part_held count held width number s.small short room).0
    ∙ ap (λ x. bits_in bytes ++ x) (bits_of-cat count width held (number % 2 ^ width) low ∙ ap (λ x. bits_of count held ++ x) (bits_of-low width number))
    ∙ sym (append_assoc (bits_in bytes) (bits_of count held) (bits_of width number))
    ∙ ap (λ x. x ++ bits_of width number) s.is

pub low_bits : (left all : ℕ) → left < 8 → all % (1 * 2 ^ left % 2 ^ 64) < 2 ^ left
low_bits left all few = subst (λ x. all % x < 2 ^ left) (sym (one_shl left 64 (omega arith))) (mod_below all (2 ^ left) (pow_pos left))

-- the next byte of a number goes behind other bytes
pub byte_pushed : (bytes next all : List ℕ) (left number : ℕ) → 8 ≤ left → next ≡ bytes ++ (number / 2 ^ (left - 8) % 256) ∷ [] → bits_in bytes ++ bits_of left number ≡ all
    → bits_in next ++ bits_of (left - 8) number ≡ all
byte_pushed bytes next all left number some is so_far =
    let rest : ℕ = left - 8 in
    let whole : 8 + rest ≡ left = omega arith in
    ap (λ x. bits_in x ++ bits_of rest number) is
    ∙ ap (λ x. x ++ bits_of rest number) (bits_in-push bytes (number / 2 ^ rest % 256) ∙ ap (λ x. bits_in bytes ++ x) (bits_of-low 8 (number / 2 ^ rest)))
    ∙ append_assoc (bits_in bytes) (bits_of 8 (number / 2 ^ rest)) (bits_of rest number)
    ∙ ap (λ x. bits_in bytes ++ x) (sym (bits_of-add 8 rest number) ∙ ap (λ k. bits_of k number) whole)
    ∙ so_far

-- a number that is put in two parts
pub parts_put : (before between after : List ℕ) (high low width number : ℕ) → high + low ≡ width → between ≡ before ++ bits_of high (number / 2 ^ low) → after ≡ between ++ bits_of low number
    → after ≡ before ++ bits_of width number
parts_put before between after high low width number whole first second =
    second ∙ ap (λ x. x ++ bits_of low number) first ∙ append_assoc before (bits_of high (number / 2 ^ low)) (bits_of low number)
    ∙ ap (λ x. before ++ x) (sym (bits_of-add high low number) ∙ ap (λ k. bits_of k number) whole)

pub length-put : (before after : List ℕ) (width number : ℕ) → after ≡ before ++ bits_of width number → length after ≡ length before + width
length-put before after width number is = ap (λ (x : List ℕ). length x) is ∙ length-append before (bits_of width number) ∙ omega (arith, length-bits_of width number)

-- the last byte, filled with zeros
pub last_byte : (count held : ℕ) → 0 < count → count < 8 → held < 2 ^ count → (held * 2 ^ (8 - count) % 2 ^ 64 ≡ held * 2 ^ (8 - count)) × (held * 2 ^ (8 - count) % 2 ^ 64 < 256)
last_byte count held some short small =
    let joined = side_by_side count (8 - count) held 0 small (pow_pos (8 - count)) (omega arith) in
    let sum : count + (8 - count) ≡ 8 = omega (arith, short) in
    let eight : 2 ^ (count + (8 - count)) ≡ 2 ^ 8 = ap (λ k. 2 ^ k) sum in
    (omega (arith, joined.0), omega (arith, joined.1, eight))

pub finished_full : (bytes next : List ℕ) (count held : ℕ) (view : List ℕ) → HoldsBits bytes count held view → 0 < count → next ≡ bytes ++ (held * 2 ^ (8 - count) % 2 ^ 64) ∷ [] → next ≡ packed view
finished_full bytes next count held view s some is =
    let fill : ℕ = 8 - count in
    let byte : ℕ = held * 2 ^ fill % 2 ^ 64 in
    let last = last_byte count held some s.short s.small in
    let eight : 8 ≡ count + fill = omega (arith, s.short) in
    let plus : byte ≡ held * 2 ^ fill + 0 = omega (arith, last.0) in
    let bits : bits_in next ≡ view ++ replicate fill 0 =
    ap bits_in is ∙ bits_in-push bytes byte ∙ ap (λ x. bits_in bytes ++ x) (ap (λ k. bits_of k byte) eight ∙ ap (bits_of (count + fill)) plus ∙ bits_of-cat count fill held 0 (pow_pos fill) ∙ ap (λ x. bits_of count held ++ x) (bits_of_0 fill))
    ∙ sym (append_assoc (bits_in bytes) (bits_of count held) (replicate fill 0)) ∙ ap (λ x. x ++ replicate fill 0) s.is in
    is_packed next view fill (subst AreBytes (sym is) (All-push (λ byte. byte < 256) bytes byte s.are last.1)) (are_shown bytes count held view s) (omega arith) bits

pub finished_even : (bytes : List ℕ) (count held : ℕ) (view : List ℕ) → HoldsBits bytes count held view → count ≤ 0 → bytes ≡ packed view
finished_even bytes count held view s none =
    let zero : count ≡ 0 = omega arith in
    let bits : bits_in bytes ≡ view ++ replicate 0 0 =
    sym (append-nil (bits_in bytes)) ∙ sym (ap (λ x. bits_in bytes ++ x) (ap (λ k. bits_of k held) zero ∙ bits_of-zero held)) ∙ s.is ∙ sym (append-nil view) in
    is_packed bytes view 0 s.are (are_shown bytes count held view s) (lit< tt) bits

-- ---- reading
-- a byte more of a number
pub byte_read : (bytes : List ℕ) (index number byte : ℕ) → index < 8 → byte < 2 ^ 8 → number < 2 ^ (8 * index) → bits_of (8 * index) number ≡ bits_in bytes
    → bits_of (8 * (index + 1)) (number * 2 ^ 8 % 2 ^ 64 + byte) ≡ bits_in (bytes ++ byte ∷ [])
byte_read bytes index number byte short is_byte fits is =
    let more : 8 * (index + 1) ≡ 8 * index + 8 = omega arith in
    ap (λ k. bits_of k (number * 2 ^ 8 % 2 ^ 64 + byte)) more
    ∙ ap (bits_of (8 * index + 8)) (side_by_side (8 * index) 8 number byte fits is_byte (omega arith)).0
    ∙ bits_of-cat (8 * index) 8 number byte is_byte
    ∙ ap (λ x. x ++ bits_of 8 byte) is
    ∙ sym (bits_in-push bytes byte)

-- the bits of a range, from the number of the bytes that they touch
pub part_read : (bytes : List ℕ) (start width number : ℕ) → width < 64 → start + width ≤ 8 * length bytes
    → let touched = take ((start + width + 7) / 8 - start / 8) (drop (start / 8) bytes) in bits_of (8 * length touched) number ≡ bits_in touched
    → bits_of width (number / 2 ^ (8 * ((start + width + 7) / 8) - start - width) % (1 * 2 ^ width % 2 ^ 64)) ≡ take width (drop start (bits_in bytes))
part_read bytes start width number short within is =
    let count : ℕ = (start + width + 7) / 8 - start / 8 in
    let touched : List ℕ = take count (drop (start / 8) bytes) in
    let behind : ℕ = 8 * ((start + width + 7) / 8) - start - width in
    let range : List ℕ = take width (drop start (bits_in bytes)) in
    let len : length range ≡ width = length-take width (drop start (bits_in bytes)) ∙ min-eq_left (omega (arith, length-drop start (bits_in bytes), length-bits_in bytes)) in
    let all : length touched ≡ count = length-take count (drop (start / 8) bytes) ∙ min-eq_left (omega (arith, length-drop (start / 8) bytes)) in
    ap (λ x. bits_of width (number / 2 ^ behind % x)) (one_shl width 64 short)
    ∙ bits_of-low width (number / 2 ^ behind)
    ∙ ext_get_or 0 (bits_of width (number / 2 ^ behind)) range (length-bits_of width (number / 2 ^ behind) ∙ sym len)
    (λ i below. let early : i < width = omega (arith, length-bits_of width (number / 2 ^ behind)) in
    let at : ℕ = start % 8 + i in
    let near : at < 8 * length touched = omega (arith, all) in
    let near_byte : at / 8 < count = omega arith in
    let bit : behind + (width - 1 - i) ≡ 8 * length touched - 1 - at = omega (arith, all) in
    let place : start / 8 + at / 8 ≡ (start + i) / 8 = omega arith in
    let same : 7 - at % 8 ≡ 7 - (start + i) % 8 = omega arith in
    get_or-bits_of width (number / 2 ^ behind) i early ∙ bit_at-shr number behind (width - 1 - i)
    ∙ ap (bit_at number) bit ∙ sym (get_or-bits_of (8 * length touched) number at near)
    ∙ ap (λ x. get_or x at 0) is ∙ get_or-bits_in touched at near
    ∙ ap (λ x. bit_at x (7 - at % 8)) (get_or-take count (drop (start / 8) bytes) (at / 8) 0 near_byte ∙ get_or-drop (start / 8) bytes (at / 8) 0)
    ∙ ap (λ x. bit_at (get_or bytes x 0) (7 - at % 8)) place ∙ ap (bit_at (get_or bytes ((start + i) / 8) 0)) same
    ∙ sym (get_or-bits_in bytes (start + i) (omega arith))
    ∙ sym (get_or-drop start (bits_in bytes) i 0) ∙ sym (get_or-take width (drop start (bits_in bytes)) i 0 early))

pub more_read : (all : List ℕ) (start done part number piece : ℕ) → number < 2 ^ done → piece < 2 ^ part → done + part ≤ 64
    → bits_of done number ≡ take done (drop start all) → bits_of part piece ≡ take part (drop (start + done) all)
    → bits_of (done + part) (number * 2 ^ part % 2 ^ 64 + piece) ≡ take (done + part) (drop start all)
more_read all start done part number piece fits fits' room first second =
    ap (bits_of (done + part)) (side_by_side done part number piece fits fits' room).0
    ∙ bits_of-cat done part number piece fits'
    ∙ ap (λ x. x ++ bits_of part piece) first
    ∙ ap (λ x. take done (drop start all) ++ x) (second ∙ ap (take part) (sym (drop-drop done start all)))
    ∙ sym (take-add done part (drop start all))

-- ---- the filling
pub filling : (fill number : ℕ) (rest : List ℕ) → number < 2 ^ fill → bits_of fill number ≡ take fill rest → length rest ≡ fill
    → ((number == 0) ≡ true → rest ≡ replicate fill 0) × (rest ≡ replicate fill 0 → (number == 0) ≡ true)
filling fill number rest fits is len =
    let whole : bits_of fill number ≡ rest = is ∙ take_all fill rest (omega arith) in (
      λ test. sym whole ∙ ap (bits_of fill) (eqb-true number 0 test) ∙ bits_of_0 fill,
      λ zeros. let same : number ≡ 0 = sym (mod-eq_of_lt fits) ∙ sym (number_from-bits_of fill number) ∙ ap number_from (whole ∙ zeros ∙ sym (bits_of_0 fill)) ∙ number_from-bits_of fill 0 ∙ mod-eq_of_lt (pow_pos fill) in
          ap (λ x. x == 0) same,
    )
