-- A frame and its parts.
use Rattle.std.proofs.Common.{◌≡◌, ◌≢◌, ℕ, zero, suc, ◌+◌, ◌-◌, ◌*◌, ◌/◌, ◌<◌, ◌≤◌, Bool, true, false, List, [], ◌∷◌, ◌++◌, get_or, length, take, drop, replicate, refl, sym, ap, ◌∙◌, arith, length-append, length-take, length-drop}
use Rattle.std.proofs.Math.Nat.{min-eq_left}
use Rattle.std.proofs.lemmas.Bool.{true≢false}
use Rattle.std.proofs.lemmas.List.{take_at, drop_at, take-append-drop, drop-drop}
use Rattle.std.proofs.lemmas.Nat.{be_bytes_4, from_be_bytes-to_be_bytes_4}
use Rattle.std.specs.Int.{to_be_bytes, from_be_bytes, w32}
use Rattle.transfer_header.specs.declared.frame.Head.{Head}
use Rattle.split_model.specs.declared.layout.Crossing.{Crossing}
use Rattle.transfer_header.specs.Bits.{bits_in, bytes_for, filled, packed}
use Rattle.transfer_header.specs.Frames.{frame_of, AreSame, IsFrameOf, IsFrame, IsUnpacked, IsReadBack}
use Rattle.transfer_header.specs.Values.{total, value_bits, Agree}
use Rattle.transfer_header.specs.Registers.{Registers, value_in}
use Rattle.transfer_header.proofs.BitLists.{AreBytes, bits_in-packed, length-cut, is_packed}
use Rattle.transfer_header.proofs.LayoutValues.{length-value_bits, are_value_bits, value_bits-same, agree_by_bits}

-- ---- the values' bytes
pub length-packed : (layout : List Crossing) (values : Crossing → ℕ) → length (packed (value_bits layout values)) ≡ bytes_for (total layout)
length-packed layout values = length-cut (bytes_for (length (value_bits layout values))) (filled (value_bits layout values)) ∙ ap bytes_for (length-value_bits layout values)

-- the values' bits stand in front, and zeros behind them
pub first_bits : (layout : List Crossing) (values : Crossing → ℕ) → take (total layout) (bits_in (packed (value_bits layout values))) ≡ value_bits layout values
first_bits layout values =
    let bits : List ℕ = value_bits layout values in
    ap (take (total layout)) (bits_in-packed bits (are_value_bits layout values)) ∙ take_at bits (replicate (8 * bytes_for (length bits) - length bits) 0) (total layout) (length-value_bits layout values)

pub last_bits : (layout : List Crossing) (values : Crossing → ℕ) → drop (total layout) (bits_in (packed (value_bits layout values))) ≡ replicate (8 * bytes_for (total layout) - total layout) 0
last_bits layout values =
    let bits : List ℕ = value_bits layout values in
    ap (drop (total layout)) (bits_in-packed bits (are_value_bits layout values)) ∙ drop_at bits (replicate (8 * bytes_for (length bits) - length bits) 0) (total layout) (length-value_bits layout values)
    ∙ ap (λ k. replicate (8 * bytes_for k - k) 0) (length-value_bits layout values)

-- bytes that have the values' bits in front and zeros behind them are those that hold them
pub header_is : (layout : List Crossing) (header : List ℕ) (values : Crossing → ℕ) → AreBytes header → length header ≡ bytes_for (total layout)
    → value_bits layout values ≡ take (total layout) (bits_in header) → drop (total layout) (bits_in header) ≡ replicate (8 * length header - total layout) 0 → header ≡ packed (value_bits layout values)
header_is layout header values are len front back =
    is_packed header (value_bits layout values) (8 * length header - total layout) are (are_value_bits layout values) (omega arith)
    (sym (take-append-drop (total layout) (bits_in header)) ∙ ap (λ x. x ++ drop (total layout) (bits_in header)) (sym front) ∙ ap (λ x. value_bits layout values ++ x) back)

-- ---- the parts of a frame
pub length-frame_of : (kind : ℕ) (layout : List Crossing) (number port : ℕ) (values : Crossing → ℕ) (packet : List ℕ) → length (frame_of kind layout number port values packet) ≡ 6 + bytes_for (total layout) + length packet
length-frame_of kind layout number port values packet =
    let rest : length (packed (value_bits layout values) ++ packet) ≡ bytes_for (total layout) + length packet = length-append (packed (value_bits layout values)) packet ∙ ap (λ k. k + length packet) (length-packed layout values) in
    omega (arith, rest)

pub header-frame_of : (kind : ℕ) (layout : List Crossing) (number port : ℕ) (values : Crossing → ℕ) (packet : List ℕ) → take (bytes_for (total layout)) (drop 6 (frame_of kind layout number port values packet)) ≡ packed (value_bits layout values)
header-frame_of kind layout number port values packet = take_at (packed (value_bits layout values)) packet (bytes_for (total layout)) (length-packed layout values)

pub packet-frame_of : (kind : ℕ) (layout : List Crossing) (number port : ℕ) (values : Crossing → ℕ) (packet : List ℕ) → drop (bytes_for (total layout)) (drop 6 (frame_of kind layout number port values packet)) ≡ packet
packet-frame_of kind layout number port values packet = drop_at (packed (value_bits layout values)) packet (bytes_for (total layout)) (length-packed layout values)

number-frame_of : (kind : ℕ) (layout : List Crossing) (number port : ℕ) (values : Crossing → ℕ) (packet : List ℕ) → take 4 (drop 1 (frame_of kind layout number port values packet)) ≡ to_be_bytes w32 number
number-frame_of kind layout number port values packet = refl

port-frame_of : (kind : ℕ) (layout : List Crossing) (number port : ℕ) (values : Crossing → ℕ) (packet : List ℕ) → get_or (frame_of kind layout number port values packet) 5 0 ≡ port
port-frame_of kind layout number port values packet = refl

-- ---- a frame from its parts
six : (xs : List ℕ) → 6 ≤ length xs → xs ≡ get_or xs 0 0 ∷ get_or xs 1 0 ∷ get_or xs 2 0 ∷ get_or xs 3 0 ∷ get_or xs 4 0 ∷ get_or xs 5 0 ∷ drop 6 xs
six (a ∷ b ∷ c ∷ d ∷ e ∷ f ∷ rest) within = refl
six xs within = absurd (omega arith)

four : (frame : List ℕ) → AreBytes frame → 6 ≤ length frame → (i : ℕ) → get_or (get_or frame 1 0 ∷ get_or frame 2 0 ∷ get_or frame 3 0 ∷ get_or frame 4 0 ∷ []) i 0 < 256
four frame are within zero = are 1 0 (omega arith)
four frame are within (suc zero) = are 2 0 (omega arith)
four frame are within (suc (suc zero)) = are 3 0 (omega arith)
four frame are within (suc (suc (suc zero))) = are 4 0 (omega arith)
four frame are within (suc (suc (suc (suc i)))) = omega arith

pub frame_is : (kind : ℕ) (layout : List Crossing) (frame : List ℕ) (number at : ℕ) (values : Crossing → ℕ) → AreBytes frame → at ≡ 6 + bytes_for (total layout) → at ≤ length frame
    → get_or frame 0 0 ≡ kind → number ≡ from_be_bytes w32 (get_or frame 1 0 ∷ get_or frame 2 0 ∷ get_or frame 3 0 ∷ get_or frame 4 0 ∷ [])
    → take (bytes_for (total layout)) (drop 6 frame) ≡ packed (value_bits layout values)
    → frame ≡ frame_of kind layout number (get_or frame 5 0) values (drop at frame)
frame_is kind layout frame number at values are is within kind_is number_is header =
    let rest : drop 6 frame ≡ packed (value_bits layout values) ++ drop at frame =
    sym (take-append-drop (bytes_for (total layout)) (drop 6 frame)) ∙ ap (λ x. x ++ drop (bytes_for (total layout)) (drop 6 frame)) header
    ∙ ap (λ x. packed (value_bits layout values) ++ x) (drop-drop (bytes_for (total layout)) 6 frame ∙ ap (λ k. drop k frame) (sym is)) in
    let own : List ℕ = get_or frame 1 0 ∷ get_or frame 2 0 ∷ get_or frame 3 0 ∷ get_or frame 4 0 ∷ [] in
    let bytes : to_be_bytes w32 number ≡ own = be_bytes_4 own number refl (four frame are (omega arith)) number_is in
    six frame (omega arith)
    ∙ ap (λ x. x ∷ own ++ get_or frame 5 0 ∷ drop 6 frame) kind_is
    ∙ ap (λ x. kind ∷ own ++ get_or frame 5 0 ∷ x) rest
    ∙ sym (ap (λ x. kind ∷ x ++ get_or frame 5 0 ∷ (packed (value_bits layout values) ++ drop at frame)) bytes)

-- ---- frames of the same bytes
-- Bytes are the frame of one number, one port, one packet, and one number for each value.
pub frames_tell_their_parts : (kind : ℕ) (layout : List Crossing) (number number' port port' : ℕ) (values values' : Crossing → ℕ) (packet packet' frame : List ℕ)
    → IsFrameOf kind layout number port values packet frame → IsFrameOf kind layout number' port' values' packet' frame → AreSame layout number number' port port' values values' packet packet'
frames_tell_their_parts kind layout number number' port port' values values' packet packet' frame is is' =
    let same : frame_of kind layout number port values packet ≡ frame_of kind layout number' port' values' packet' = sym is.bytes ∙ is'.bytes in
    let four_bytes : to_be_bytes w32 number ≡ to_be_bytes w32 number' = sym (number-frame_of kind layout number port values packet) ∙ ap (λ x. take 4 (drop 1 x)) same ∙ number-frame_of kind layout number' port' values' packet' in
    let headers : packed (value_bits layout values) ≡ packed (value_bits layout values') =
    sym (header-frame_of kind layout number port values packet) ∙ ap (λ x. take (bytes_for (total layout)) (drop 6 x)) same ∙ header-frame_of kind layout number' port' values' packet' in
    record {
      same_number = sym (from_be_bytes-to_be_bytes_4 number is.four_bytes) ∙ ap (from_be_bytes w32) four_bytes ∙ from_be_bytes-to_be_bytes_4 number' is'.four_bytes;
      same_port = sym (port-frame_of kind layout number port values packet) ∙ ap (λ x. get_or x 5 0) same ∙ port-frame_of kind layout number' port' values' packet';
      same_values = agree_by_bits layout values values' is.narrow is'.narrow (sym (first_bits layout values) ∙ ap (λ x. take (total layout) (bits_in x)) headers ∙ first_bits layout values');
      same_packet = sym (packet-frame_of kind layout number port values packet) ∙ ap (λ x. drop (bytes_for (total layout)) (drop 6 x)) same ∙ packet-frame_of kind layout number' port' values' packet';
    }

-- A frame says nothing of its values but their numbers.
pub frames_of_equal_values : (kind : ℕ) (layout : List Crossing) (number port : ℕ) (values others : Crossing → ℕ) (packet : List ℕ) → Agree layout values others
    → frame_of kind layout number port values packet ≡ frame_of kind layout number port others packet
frames_of_equal_values kind layout number port values others packet agree =
    ap (λ bits. kind ∷ to_be_bytes w32 number ++ port ∷ packed bits ++ packet) (value_bits-same layout values others agree)

-- ---- what is no frame
-- a frame has its kind in front, and is neither too short nor too long
pub outline : (kind : ℕ) (layout : List Crossing) (frame : List ℕ) → IsFrame kind layout frame
    → (6 + bytes_for (total layout) ≤ length frame) × (length frame ≤ 6 + bytes_for (total layout) + 9216) × (get_or frame 0 0 ≡ kind)
outline kind layout frame is =
    let len : length frame ≡ 6 + bytes_for (total layout) + length is.packet = ap (λ (x : List ℕ). length x) is.is.bytes ∙ length-frame_of kind layout is.number is.port is.values is.packet in
    (omega arith, omega (arith, is.is.short), ap (λ x. get_or x 0 0) is.is.bytes)

-- and zeros behind its values
pub zeros_behind : (kind : ℕ) (layout : List Crossing) (frame header : List ℕ) → header ≡ take (bytes_for (total layout)) (drop 6 frame) → IsFrame kind layout frame
    → drop (total layout) (bits_in header) ≡ replicate (8 * length header - total layout) 0
zeros_behind kind layout frame header part is =
    let own : header ≡ packed (value_bits layout is.values) = part ∙ ap (λ x. take (bytes_for (total layout)) (drop 6 x)) is.is.bytes ∙ header-frame_of kind layout is.number is.port is.values is.packet in
    ap (λ x. drop (total layout) (bits_in x)) own ∙ last_bits layout is.values ∙ sym (ap (λ k. replicate (8 * k - total layout) 0) (ap (λ (x : List ℕ). length x) own ∙ length-packed layout is.values))

-- what a test of the filling says, of the number of bits as it was computed
pub not_filled : (header : List ℕ) (bits all : ℕ) (answer : Bool) → bits ≡ all → answer ≡ false → (drop bits (bits_in header) ≡ replicate (8 * length header - bits) 0 → answer ≡ true)
    → drop all (bits_in header) ≢ replicate (8 * length header - all) 0
not_filled header bits all answer same failed then zeros = true≢false (sym (then (ap (λ k. drop k (bits_in header)) same ∙ zeros ∙ sym (ap (λ k. replicate (8 * length header - k) 0) same))) ∙ failed)

pub is_filled_at : (header : List ℕ) (bits all : ℕ) (answer : Bool) → bits ≡ all → answer ≡ true → (answer ≡ true → drop bits (bits_in header) ≡ replicate (8 * length header - bits) 0)
    → drop all (bits_in header) ≡ replicate (8 * length header - all) 0
is_filled_at header bits all answer same passed then = sym (ap (λ k. drop k (bits_in header)) same) ∙ then passed ∙ ap (λ k. replicate (8 * length header - k) 0) same

-- the range of the values' bytes, as it is computed
pub range_is : (frame : List ℕ) (bits all : ℕ) → bits ≡ all → take (6 + (bits + 7) / 8 - 6) (drop 6 frame) ≡ take (bytes_for all) (drop 6 frame)
range_is frame bits all same = let count : 6 + (bits + 7) / 8 - 6 ≡ bytes_for all = omega arith in ap (λ k. take k (drop 6 frame)) count

pub length_range : (frame : List ℕ) (bits all : ℕ) → bits ≡ all → 6 + (bits + 7) / 8 ≤ length frame → length (take (6 + (bits + 7) / 8 - 6) (drop 6 frame)) ≡ bytes_for all
length_range frame bits all same within =
    length-take (6 + (bits + 7) / 8 - 6) (drop 6 frame) ∙ min-eq_left (omega (arith, length-drop 6 frame)) ∙ omega arith

-- ---- there and back
pub read_back : (kind : ℕ) (layout : List Crossing) (number port : ℕ) (values : Crossing → ℕ) (packet frame : List ℕ) (before after : Registers) (head : Head)
    → IsUnpacked kind layout frame before after head → IsFrameOf kind layout number port values packet frame → IsReadBack layout number port values packet frame after head
read_back kind layout number port values packet frame before after head told is =
    frames_tell_their_parts kind layout head.number number head.port port (value_in after) values (drop head.packet_at frame) packet frame told.is is

-- bytes that are the frame of some parts are a frame
pub a_frame : (kind : ℕ) (layout : List Crossing) (number port : ℕ) (values : Crossing → ℕ) (packet frame : List ℕ)
    → IsFrameOf kind layout number port values packet frame → IsFrame kind layout frame
a_frame kind layout number port values packet frame is = record { number = number; port = port; values = values; packet = packet; is = is }
