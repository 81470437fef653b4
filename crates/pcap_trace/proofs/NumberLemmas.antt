-- Numbers and their bytes.
use Rattle.std.proofs.Common.{◌≡◌, ℕ, zero, suc, ◌+◌, ◌<◌, ◌≤◌, ◌^◌, Bool, true, false, List, [], ◌∷◌, ◌++◌, length, get_or, take, drop, refl, sym, ap, ◌∙◌, add-zero, append_assoc, lit<, arith}
use Rattle.std.specs.Int.{Width, w16, w32, from_be_bytes, from_le_bytes, to_be_bytes, to_le_bytes}
use Rattle.std.proofs.lemmas.List.{drop-drop, get_or-drop, length-append, length-drop, take_all}
use Rattle.std.proofs.Math.Seq.{take-add}
use Rattle.std.proofs.lemmas.Nat.{be_bytes_4, le_bytes_4, from_be_bytes-to_be_bytes_4, from_le_bytes-to_le_bytes_4}
use Rattle.packet_fields.specs.Several.{AreBytes}
use Rattle.pcap_trace.specs.Format.{ethernet, front, header, magic, number, record_header}
use Rattle.lemmas.proofs.Lists.{first_parts, second_parts}

pub number_big : (big : Bool) (width : Width) (n : ℕ) → big ≡ true → number big width n ≡ to_be_bytes width n
unfolding number
number_big true width n is = refl
number_big false width n is = absurd cc

pub number_little : (big : Bool) (width : Width) (n : ℕ) → big ≡ false → number big width n ≡ to_le_bytes width n
unfolding number
number_little true width n is = absurd cc
number_little false width n is = refl

-- the four bytes from a place on
abbrev four_from : List ℕ → ℕ → List ℕ
four_from bytes at = get_or bytes at 0 ∷ get_or bytes (at + 1) 0 ∷ get_or bytes (at + 2) 0 ∷ get_or bytes (at + 3) 0 ∷ []

four_are : (bytes : List ℕ) (at : ℕ) → AreBytes bytes → AreBytes (four_from bytes at)
four_are bytes at are zero = are at
four_are bytes at are (suc zero) = are (at + 1)
four_are bytes at are (suc (suc zero)) = are (at + 2)
four_are bytes at are (suc (suc (suc zero))) = are (at + 3)
four_are bytes at are (suc (suc (suc (suc i)))) = lit< tt

first_four : (bytes : List ℕ) → 4 ≤ length bytes → four_from bytes 0 ≡ take 4 bytes
first_four [] long = absurd (omega arith)
first_four (a ∷ []) long = absurd (omega arith)
first_four (a ∷ b ∷ []) long = absurd (omega arith)
first_four (a ∷ b ∷ c ∷ []) long = absurd (omega arith)
first_four (a ∷ b ∷ c ∷ d ∷ rest) long = refl

four_at : (bytes : List ℕ) (at : ℕ) → at + 4 ≤ length bytes → four_from bytes at ≡ take 4 (drop at bytes)
four_at bytes at inside =
    let first : get_or (drop at bytes) 0 0 ≡ get_or bytes at 0 = get_or-drop at bytes 0 0 ∙ ap (λ (i : ℕ). get_or bytes i 0) (add-zero at) in
    let second : get_or (drop at bytes) 1 0 ≡ get_or bytes (at + 1) 0 = get_or-drop at bytes 1 0 in
    let third : get_or (drop at bytes) 2 0 ≡ get_or bytes (at + 2) 0 = get_or-drop at bytes 2 0 in
    let fourth : get_or (drop at bytes) 3 0 ≡ get_or bytes (at + 3) 0 = get_or-drop at bytes 3 0 in
    let all : four_from (drop at bytes) 0 ≡ take 4 (drop at bytes) = first_four (drop at bytes) (omega (arith, length-drop at bytes)) in
    cc

-- the number that four bytes spell
pub big_read : (big : Bool) (bytes : List ℕ) (at n : ℕ) → big ≡ true → at + 4 ≤ length bytes → AreBytes bytes
    → n ≡ from_be_bytes w32 (four_from bytes at) → number big w32 n ≡ take 4 (drop at bytes)
big_read big bytes at n is inside are n_is =
    number_big big w32 n is ∙ (be_bytes_4 (four_from bytes at) n refl (four_are bytes at are) n_is ∙ four_at bytes at inside)

pub little_read : (big : Bool) (bytes : List ℕ) (at n : ℕ) → big ≡ false → at + 4 ≤ length bytes → AreBytes bytes
    → n ≡ from_le_bytes w32 (four_from bytes at) → number big w32 n ≡ take 4 (drop at bytes)
little_read big bytes at n is inside are n_is =
    number_little big w32 n is ∙ (le_bytes_4 (four_from bytes at) n refl (four_are bytes at are) n_is ∙ four_at bytes at inside)

pub length-number_4 : (big : Bool) (n : ℕ) → length (number big w32 n) ≡ 4
unfolding number
length-number_4 true n = refl
length-number_4 false n = refl

pub length-number_2 : (big : Bool) (n : ℕ) → length (number big w16 n) ≡ 2
unfolding number
length-number_2 true n = refl
length-number_2 false n = refl

-- numbers of the same bytes are the same
pub one_number : (big : Bool) (m n : ℕ) → m < 2 ^ 32 → n < 2 ^ 32 → number big w32 m ≡ number big w32 n → m ≡ n
unfolding number
one_number true m n m_fits n_fits same =
    sym (from_be_bytes-to_be_bytes_4 m m_fits)
    ∙ (ap (λ (bytes : List ℕ). from_be_bytes w32 bytes) same ∙ from_be_bytes-to_be_bytes_4 n n_fits)
one_number false m n m_fits n_fits same =
    sym (from_le_bytes-to_le_bytes_4 m m_fits)
    ∙ (ap (λ (bytes : List ℕ). from_le_bytes w32 bytes) same ∙ from_le_bytes-to_le_bytes_4 n n_fits)

-- a number in front of other bytes
pub number_in_front : (big : Bool) (m n : ℕ) (x y : List ℕ) → m < 2 ^ 32 → n < 2 ^ 32
    → number big w32 m ++ x ≡ number big w32 n ++ y → m ≡ n
number_in_front big m n x y m_fits n_fits same =
    one_number big m n m_fits n_fits (first_parts (number big w32 m) (number big w32 n) x y (length-number_4 big m ∙ sym (length-number_4 big n)) same)

pub behind_number : (big : Bool) (m n : ℕ) (x y : List ℕ) → number big w32 m ++ x ≡ number big w32 n ++ y → x ≡ y
behind_number big m n x y same =
    second_parts (number big w32 m) (number big w32 n) x y (length-number_4 big m ∙ sym (length-number_4 big n)) same

pub length-front : (big nano : Bool) → length (front big nano) ≡ 8
unfolding front
length-front big nano =
    let magic_long = length-number_4 big (magic nano) in
    let major_long = length-number_2 big 2 in
    let minor_long = length-number_2 big 4 in
    omega (arith, length-append (number big w32 (magic nano)) (number big w16 2 ++ number big w16 4), length-append (number big w16 2) (number big w16 4))

pub length-header : (big nano : Bool) (zone sigfigs snaplen : ℕ) → length (header big nano zone sigfigs snaplen) ≡ 24
unfolding header
length-header big nano zone sigfigs snaplen =
    let front_long = length-front big nano in
    let zone_long = length-number_4 big zone in
    let sigfigs_long = length-number_4 big sigfigs in
    let snaplen_long = length-number_4 big snaplen in
    let link_long = length-number_4 big ethernet in
    omega (
      arith,
      length-append (front big nano) (number big w32 zone ++ (number big w32 sigfigs ++ (number big w32 snaplen ++ number big w32 ethernet))),
      length-append (number big w32 zone) (number big w32 sigfigs ++ (number big w32 snaplen ++ number big w32 ethernet)),
      length-append (number big w32 sigfigs) (number big w32 snaplen ++ number big w32 ethernet),
      length-append (number big w32 snaplen) (number big w32 ethernet),
    )

pub length-record_header : (big : Bool) (seconds fraction captured original : ℕ)
    → length (record_header big seconds fraction captured original) ≡ 16
unfolding record_header
length-record_header big seconds fraction captured original =
    let seconds_long = length-number_4 big seconds in
    let fraction_long = length-number_4 big fraction in
    let captured_long = length-number_4 big captured in
    let original_long = length-number_4 big original in
    omega (
      arith,
      length-append (number big w32 seconds) (number big w32 fraction ++ (number big w32 captured ++ number big w32 original)),
      length-append (number big w32 fraction) (number big w32 captured ++ number big w32 original),
      length-append (number big w32 captured) (number big w32 original),
    )

-- bytes in two parts, of which the second begins at a place
next_part : (n m at to : ℕ) (bytes : List ℕ) → to ≡ at + n → take (n + m) (drop at bytes) ≡ take n (drop at bytes) ++ take m (drop to bytes)
next_part n m at to bytes is =
    take-add n m (drop at bytes)
    ∙ ap (λ (b : List ℕ). take n (drop at bytes) ++ take m b) (drop-drop n at bytes ∙ ap (λ (i : ℕ). drop i bytes) (sym is))

-- four numbers that stand one after another make the header of a record
pub record_header_read : (big : Bool) (bytes : List ℕ) (at a b c d : ℕ)
    → number big w32 a ≡ take 4 (drop at bytes) → number big w32 b ≡ take 4 (drop (at + 4) bytes)
    → number big w32 c ≡ take 4 (drop (at + 8) bytes) → number big w32 d ≡ take 4 (drop (at + 12) bytes)
    → record_header big a b c d ≡ take 16 (drop at bytes)
unfolding record_header
record_header_read big bytes at a b c d a_is b_is c_is d_is =
    let first = next_part 4 12 at (at + 4) bytes refl in
    let second = next_part 4 8 (at + 4) (at + 8) bytes (omega arith) in
    let third = next_part 4 4 (at + 8) (at + 12) bytes (omega arith) in
    cc

-- the front, and four numbers behind it, make the header of a capture
pub header_read : (big nano : Bool) (bytes : List ℕ) (zone sigfigs snaplen : ℕ)
    → take 8 bytes ≡ front big nano → number big w32 zone ≡ take 4 (drop 8 bytes)
    → number big w32 sigfigs ≡ take 4 (drop 12 bytes) → number big w32 snaplen ≡ take 4 (drop 16 bytes)
    → number big w32 ethernet ≡ take 4 (drop 20 bytes) → take 24 bytes ≡ header big nano zone sigfigs snaplen
unfolding header
header_read big nano bytes zone sigfigs snaplen front_is zone_is sigfigs_is snaplen_is link_is =
    let lead : take 24 bytes ≡ take 8 bytes ++ take 16 (drop 8 bytes) = take-add 8 16 bytes in
    let first = next_part 4 12 8 12 bytes refl in
    let second = next_part 4 8 12 16 bytes refl in
    let third = next_part 4 4 16 20 bytes refl in
    cc

quad : (xs : List ℕ) → length xs ≡ 4 → four_from xs 0 ≡ xs
quad xs long = first_four xs (omega arith) ∙ take_all 4 xs (omega arith)

abbrev two_from : List ℕ → List ℕ
two_from xs = get_or xs 0 0 ∷ get_or xs 1 0 ∷ []

pair : (xs : List ℕ) → length xs ≡ 2 → two_from xs ≡ xs
pair [] long = absurd (omega arith)
pair (a ∷ []) long = absurd (omega arith)
pair (a ∷ b ∷ []) long = refl
pair (a ∷ b ∷ c ∷ rest) long = absurd (omega arith)

-- three numbers, byte by byte, make the front
pub front_made : (big nano : Bool) (m v w : List ℕ) → m ≡ number big w32 (magic nano) → v ≡ number big w16 2 → w ≡ number big w16 4
    → get_or m 0 0 ∷ get_or m 1 0 ∷ get_or m 2 0 ∷ get_or m 3 0 ∷ get_or v 0 0 ∷ get_or v 1 0 ∷ get_or w 0 0 ∷ get_or w 1 0 ∷ [] ≡ front big nano
unfolding front
front_made big nano m v w m_is v_is w_is =
    let first : four_from m 0 ≡ number big w32 (magic nano) = quad m (ap (λ (b : List ℕ). length b) m_is ∙ length-number_4 big (magic nano)) ∙ m_is in
    let second : two_from v ≡ number big w16 2 = pair v (ap (λ (b : List ℕ). length b) v_is ∙ length-number_2 big 2) ∙ v_is in
    let third : two_from w ≡ number big w16 4 = pair w (ap (λ (b : List ℕ). length b) w_is ∙ length-number_2 big 4) ∙ w_is in
    ap (λ (b : List ℕ). b ++ (two_from v ++ two_from w)) first
    ∙ (ap (λ (b : List ℕ). number big w32 (magic nano) ++ (b ++ two_from w)) second
    ∙ ap (λ (b : List ℕ). number big w32 (magic nano) ++ (number big w16 2 ++ b)) third)

-- what is put behind a text, number by number
pub header_put : (big nano : Bool) (zone sigfigs snaplen : ℕ) (text t1 t2 t3 t4 t5 f z s n l : List ℕ)
    → t1 ≡ text ++ f → t2 ≡ t1 ++ z → t3 ≡ t2 ++ s → t4 ≡ t3 ++ n → t5 ≡ t4 ++ l
    → f ≡ front big nano → z ≡ number big w32 zone → s ≡ number big w32 sigfigs → n ≡ number big w32 snaplen → l ≡ number big w32 ethernet
    → t5 ≡ text ++ header big nano zone sigfigs snaplen
unfolding header
header_put big nano zone sigfigs snaplen text t1 t2 t3 t4 t5 f z s n l t1_is t2_is t3_is t4_is t5_is f_is z_is s_is n_is l_is =
    rw (t5_is, t4_is, t3_is, t2_is, t1_is, f_is, z_is, s_is, n_is, l_is) (simp append_assoc)

pub record_header_put : (big : Bool) (a b c d : ℕ) (text t1 t2 t3 t4 w x y z : List ℕ)
    → t1 ≡ text ++ w → t2 ≡ t1 ++ x → t3 ≡ t2 ++ y → t4 ≡ t3 ++ z
    → w ≡ number big w32 a → x ≡ number big w32 b → y ≡ number big w32 c → z ≡ number big w32 d
    → t4 ≡ text ++ record_header big a b c d
unfolding record_header
record_header_put big a b c d text t1 t2 t3 t4 w x y z t1_is t2_is t3_is t4_is w_is x_is y_is z_is =
    rw (t4_is, t3_is, t2_is, t1_is, w_is, x_is, y_is, z_is) (simp append_assoc)
