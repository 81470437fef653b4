-- Another packet in a frame.
use Rattle.std.proofs.Common.{◌≡◌, ◌+◌, ◌≤◌, ◌-◌, ℕ, List, ◌∷◌, ◌++◌, length, take, drop, length-append, ap, ◌∙◌, arith}
use Rattle.std.proofs.lemmas.List.{drop_at, take_at}
use Rattle.std.specs.Int.{to_be_bytes, w32}
use Rattle.split_model.specs.declared.layout.Crossing.{Crossing}
use Rattle.transfer_header.specs.Bits.{packed}
use Rattle.transfer_header.specs.Frames.{frame_of}
use Rattle.transfer_header.specs.Values.{value_bits}

module _ (kind : ℕ) (layout : List Crossing) (number port : ℕ) (values : Crossing → ℕ) (packet frame : List ℕ)
    (is : frame ≡ frame_of kind layout number port values packet) where
  -- what stands before the packet
  abbrev head : List ℕ
  head = kind ∷ to_be_bytes w32 number ++ port ∷ packed (value_bits layout values)

  abbrev at : ℕ
  at = length frame - length packet

  lengths : length frame ≡ length head + length packet
  lengths = ap length is ∙ length-append head packet

  place : length head ≡ at
  place = omega (arith, lengths)

  pub packet_within : length packet ≤ length frame
  packet_within = omega (arith, lengths)

  pub packet_last : drop at frame ≡ packet
  packet_last = ap (drop at) is ∙ drop_at head packet at place

  -- the frame with other bytes in the packet's place
  pub packet_replaced : (sent : List ℕ) → take at frame ++ sent ≡ frame_of kind layout number port values sent
  packet_replaced sent = ap (λ l. l ++ sent) (ap (take at) is ∙ take_at head packet at place)
