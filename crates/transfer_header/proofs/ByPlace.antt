-- What stands in a frame by place is what it is the frame of.
use Rattle.std.proofs.Common.{◌≡◌, ℕ, ◌+◌, ◌-◌, ◌*◌, ◌/◌, ◌%◌, ◌^◌, ◌<◌, Bool, true, false, cond, List, [], ◌∷◌, ◌++◌, get_or, length, take, drop, replicate, map, refl, sym, ap, subst, ◌∙◌, append_assoc, mod-eq_of_lt}
use Rattle.std.specs.Prelude.{IsTrue}
use Rattle.std.specs.Int.{to_be_bytes, w32}
use Rattle.std.specs.List.{All, filter}
use Rattle.std.proofs.lemmas.Bool.{true≢false}
use Rattle.std.proofs.lemmas.List.{append-nil, take_at, drop_at, drop-drop}
use Rattle.std.proofs.lemmas.List.Elements.{All-nil, All-cons, All-head, All-tail}
use Rattle.std.proofs.lemmas.Nat.{mod_below, pow_pos}
use Rattle.packet_fields.specs.declared.packet.Packet.{Packet}
use Rattle.flat_ir.specs.declared.program.ValueId.{ValueId}
use Rattle.flat_ir.specs.Program.{Program, is_named, width_of_value}
use Rattle.split_model.specs.declared.layout.Crossing.{Crossing}
use Rattle.split_model.specs.Crossing.{is_value}
use Rattle.split_model.specs.Layouts.{crossing, values_of}
use Rattle.transfer_header.specs.declared.frame.Head.{Head}
use Rattle.transfer_header.specs.Bits.{bits_of, bits_in, bytes_for, number_from, packed}
use Rattle.transfer_header.specs.Values.{total, value_bits, low_bits, AreNarrow}
use Rattle.transfer_header.specs.Registers.{Registers, value_in}
use Rattle.transfer_header.specs.Frames.{frame_of, IsFrameOf, IsUnpacked}
use Rattle.transfer_header.specs.Told.{port_in, value_among, reads_in, IsToldByPlace, AreToldByPlace}
use Rattle.transfer_header.proofs.BitLists.{length-bits_of, bits_of-low, bits_of-add, number_from-bits_of, bits_in-nil, bits_in-cons, bits_in-append, bits_in-packed}
use Rattle.transfer_header.proofs.LayoutValues.{are_value_bits, value_bits-nil, value_bits-cons}
use Rattle.transfer_header.proofs.Numbers.{from_all, to_all}
use Rattle.transfer_header.proofs.WholeFrames.{packet-frame_of}
use Rattle.flat_ir.proofs.Exact.{same_itself, value_same}

-- ---- the lowest bits of values alone
pub bits_of_lowest : (layout : List Crossing) (values : Crossing → ℕ) → value_bits layout values ≡ value_bits layout (low_bits values)
bits_of_lowest [] values = value_bits-nil values ∙ sym (value_bits-nil (low_bits values))
bits_of_lowest (c ∷ cs) values =
    value_bits-cons c cs values
    ∙ ap (λ x. x ++ value_bits cs values) (sym (bits_of-low c.width (values c)))
    ∙ ap (λ x. bits_of c.width (low_bits values c) ++ x) (bits_of_lowest cs values)
    ∙ sym (value_bits-cons c cs (low_bits values))

-- A frame says of each value its lowest bits alone, as many as its width.
pub frames_of_low_bits-bytes : (kind : ℕ) (layout : List Crossing) (number port : ℕ) (values : Crossing → ℕ) (packet : List ℕ) → frame_of kind layout number port values packet ≡ frame_of kind layout number port (low_bits values) packet
frames_of_low_bits-bytes kind layout number port values packet = ap (λ bits. kind ∷ to_be_bytes w32 number ++ port ∷ packed bits ++ packet) (bits_of_lowest layout values)

pub frames_of_low_bits-narrow : (layout : List Crossing) (values : Crossing → ℕ) → AreNarrow layout (low_bits values)
frames_of_low_bits-narrow layout values i d within = let c : Crossing = get_or layout i d in mod_below (values c) (2 ^ c.width) (pow_pos c.width)

-- ---- a number of four bytes
byte_more : (k number : ℕ) → bits_of 8 (number / 2 ^ k % 256) ++ bits_of k number ≡ bits_of (8 + k) number
byte_more k number = ap (λ x. x ++ bits_of k number) (bits_of-low 8 (number / 2 ^ k)) ∙ sym (bits_of-add 8 k number)

bits_of_bytes : (number : ℕ) → bits_in (to_be_bytes w32 number) ≡ bits_of 32 number
bits_of_bytes number =
    let a : ℕ = number / 2 ^ 24 % 256 in
    let b : ℕ = number / 2 ^ 16 % 256 in
    let c : ℕ = number / 2 ^ 8 % 256 in
    let d : ℕ = number % 256 in
    let last : bits_in (d ∷ []) ≡ bits_of 8 number = bits_in-cons d [] ∙ ap (λ x. bits_of 8 d ++ x) bits_in-nil ∙ append-nil (bits_of 8 d) ∙ bits_of-low 8 number in
    let two : bits_in (c ∷ d ∷ []) ≡ bits_of 16 number = bits_in-cons c (d ∷ []) ∙ ap (λ x. bits_of 8 c ++ x) last ∙ byte_more 8 number in
    let three : bits_in (b ∷ c ∷ d ∷ []) ≡ bits_of 24 number = bits_in-cons b (c ∷ d ∷ []) ∙ ap (λ x. bits_of 8 b ++ x) two ∙ byte_more 16 number in
    bits_in-cons a (b ∷ c ∷ d ∷ []) ∙ ap (λ x. bits_of 8 a ++ x) three ∙ byte_more 24 number

pub number_told : (number : ℕ) → number < 2 ^ 32 → number_from (bits_in (to_be_bytes w32 number)) ≡ number
number_told number fits = ap number_from (bits_of_bytes number) ∙ number_from-bits_of 32 number ∙ mod-eq_of_lt fits

-- ---- number, port and packet
-- What a frame is the frame of stands in it by place.
pub frames_are_told_by_place-parts : (kind : ℕ) (layout : List Crossing) (number port : ℕ) (values : Crossing → ℕ) (packet frame : List ℕ) → IsFrameOf kind layout number port values packet frame → IsToldByPlace layout number port packet frame
frames_are_told_by_place-parts kind layout number port values packet frame is =
    let there : port_in frame ≡ port = ap (λ x. get_or x 5 0) is.bytes in
    let behind : drop (6 + bytes_for (total layout)) frame ≡ packet =
    sym (drop-drop (bytes_for (total layout)) 6 frame) ∙ ap (λ x. drop (bytes_for (total layout)) (drop 6 x)) is.bytes ∙ packet-frame_of kind layout number port values packet in
    let P : ℕ → List ℕ → Packet = λ p b. record { port = p; bytes = b } in
    record {
      numbered = ap (λ x. number_from (bits_in (take 4 (drop 1 x)))) is.bytes ∙ number_told number is.four_bytes;
      arrived = there;
      carries = ap (λ p. P p (drop (6 + bytes_for (total layout)) frame)) there ∙ ap (P port) behind;
    }

-- So does what was told of a frame.
pub frames_are_told_by_place-unpacked : (kind : ℕ) (layout : List Crossing) (frame : List ℕ) (before after : Registers) (head : Head) → IsUnpacked kind layout frame before after head → IsToldByPlace layout head.number head.port (drop head.packet_at frame) frame
frames_are_told_by_place-unpacked kind layout frame before after head is = frames_are_told_by_place-parts kind layout head.number head.port (value_in after) (drop head.packet_at frame) frame is.is

-- where all of a layout's values that are v are one, and there is one, its bits are found
among_bits : (layout : List Crossing) (values : Crossing → ℕ) (rest : List ℕ) (v : ValueId) (own : Crossing) → All (λ (c : Crossing). is_value c.value v ≡ true → c ≡ own) layout
    → (All (λ (c : Crossing). is_value c.value v ≡ false) layout → ⊥) → value_among layout (value_bits layout values ++ rest) v ≡ values own % 2 ^ own.width
among_bits [] values rest v own each some = absurd (some (All-nil (λ (c : Crossing). is_value c.value v ≡ false)))
among_bits (c ∷ cs) values rest v own each some =
    among_case (among_bits cs values rest v own (All-tail (λ (q : Crossing). is_value q.value v ≡ true → q ≡ own) c cs each)) (is_value c.value v) refl
  where
    bits : List ℕ
    bits = value_bits (c ∷ cs) values ++ rest

    whole : bits ≡ bits_of c.width (values c) ++ (value_bits cs values ++ rest)
    whole = ap (λ x. x ++ rest) (value_bits-cons c cs values) ∙ append_assoc (bits_of c.width (values c)) (value_bits cs values) rest

    first : number_from (take c.width bits) ≡ values c % 2 ^ c.width
    first = ap (λ x. number_from (take c.width x)) whole ∙ ap number_from (take_at (bits_of c.width (values c)) (value_bits cs values ++ rest) c.width (length-bits_of c.width (values c))) ∙ number_from-bits_of c.width (values c)

    others : drop c.width bits ≡ value_bits cs values ++ rest
    others = ap (drop c.width) whole ∙ drop_at (bits_of c.width (values c)) (value_bits cs values ++ rest) c.width (length-bits_of c.width (values c))

    among_case : ((All (λ (q : Crossing). is_value q.value v ≡ false) cs → ⊥) → value_among cs (value_bits cs values ++ rest) v ≡ values own % 2 ^ own.width)
        → (b : Bool) → is_value c.value v ≡ b → cond b (number_from (take c.width bits)) (value_among cs (drop c.width bits) v) ≡ values own % 2 ^ own.width
    among_case later true e = first ∙ ap (λ (q : Crossing). values q % 2 ^ q.width) (All-head (λ (q : Crossing). is_value q.value v ≡ true → q ≡ own) c cs each e)
    among_case later false e = ap (λ x. value_among cs x v) others ∙ later (λ none. some (All-cons (λ (q : Crossing). is_value q.value v ≡ false) c cs e none))

abbrev crossings : Program → (ValueId → Bool) → List Crossing
crossings f crosses = map (crossing f) (filter crosses (values_of f))

value_told : (f : Program) (crosses : ValueId → Bool) (kind number port : ℕ) (values : Crossing → ℕ) (packet frame : List ℕ) → ((v : ValueId) → crosses v ≡ true → IsTrue (is_named f v))
    → IsFrameOf kind (crossings f crosses) number port values packet frame → (v : ValueId) → crosses v ≡ true → reads_in (crossings f crosses) frame v ≡ values (crossing f v)
value_told f crosses kind number port values packet frame named is v e =
    let layout : List Crossing = crossings f crosses in
    let bits : List ℕ = value_bits layout values in
    let zeros : List ℕ = replicate (8 * bytes_for (length bits) - length bits) 0 in
    let all : bits_in (drop 6 frame) ≡ bits ++ (zeros ++ bits_in packet) =
    ap (λ x. bits_in (drop 6 x)) is.bytes ∙ bits_in-append (packed bits) packet ∙ ap (λ x. x ++ bits_in packet) (bits_in-packed bits (are_value_bits layout values)) ∙ append_assoc bits zeros (bits_in packet) in
    ap (λ x. value_among layout x v) all
    ∙ among_bits layout values (zeros ++ bits_in packet) v (crossing f v)
    (to_all f crosses (λ (c : Crossing). is_value c.value v ≡ true → c ≡ crossing f v) (λ w passes same. ap (crossing f) (value_same w v same)))
    (λ none. true≢false (sym (same_itself v) ∙ from_all f crosses (λ (c : Crossing). is_value c.value v ≡ false) named none v e))
    ∙ mod-eq_of_lt (from_all f crosses (λ (c : Crossing). values c < 2 ^ c.width) named is.narrow v e)

pub values_told : (f : Program) (crosses : ValueId → Bool) (kind number port : ℕ) (values : Crossing → ℕ) (packet frame : List ℕ) → ((v : ValueId) → crosses v ≡ true → IsTrue (is_named f v))
    → IsFrameOf kind (map (crossing f) (filter crosses (values_of f))) number port values packet frame → AreToldByPlace f crosses (map (crossing f) (filter crosses (values_of f))) values frame
values_told f crosses kind number port values packet frame named is = record {
  numbers = value_told f crosses kind number port values packet frame named is;
  narrow = λ v e. subst (λ n. n < 2 ^ width_of_value f v) (sym (value_told f crosses kind number port values packet frame named is v e))
      (from_all f crosses (λ (c : Crossing). values c < 2 ^ c.width) named is.narrow v e);
}
