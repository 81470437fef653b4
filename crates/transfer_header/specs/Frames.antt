-- What a frame is.
use Rattle.std.specs.Prelude.{◌≡◌, ℕ, ◌+◌, ◌^◌, ◌<◌, ◌≤◌, List, ◌∷◌, ◌++◌, length, drop}
use Rattle.std.specs.Int.{to_be_bytes, w32}
use Rattle.packet_fields.specs.Sizes.{largest_packet}
use Rattle.flat_ir.specs.Blocks.{Reading}
use Rattle.split_model.specs.declared.layout.Crossing.{Crossing}
use Rattle.transfer_header.specs.declared.frame.Head.{Head}
use Rattle.transfer_header.specs.Bits.{packed, bytes_for}
use Rattle.transfer_header.specs.Values.{total, value_bits, value_by, AreNarrow, Agree}
use Rattle.transfer_header.specs.Registers.{Registers, value_in, ChangesOnly}

-- the bytes of a frame: its kind, a packet's number in four bytes, a port, the values of a layout, and the packet
abbrev pub frame_of : ℕ → List Crossing → ℕ → ℕ → (Crossing → ℕ) → List ℕ → List ℕ
frame_of kind layout number port values packet =
    kind ∷ to_be_bytes w32 number ++ port ∷ packed (value_bits layout values) ++ packet

-- memory for so many bytes is enough for a frame of the layout with a packet of so many bytes
abbrev pub HasRoom : List Crossing → ℕ → ℕ → Type 0
HasRoom layout packet room = 6 + bytes_for (total layout) + packet ≤ room

-- the frame that takes the numbers of a reading up, and the one that takes them down
abbrev pub up_frame : List Crossing → ℕ → ℕ → Reading → List ℕ → List ℕ
up_frame layout number port reads packet = frame_of 1 layout number port (value_by reads) packet

abbrev pub down_frame : List Crossing → ℕ → ℕ → Reading → List ℕ → List ℕ
down_frame layout number port reads packet = frame_of 2 layout number port (value_by reads) packet

-- The bytes are the frame of these parts, and each part has room: four bytes, one byte, its width for each value, and
-- the most bytes of a packet.
pub record IsFrameOf
    (kind : ℕ) (layout : List Crossing) (number port : ℕ) (values : Crossing → ℕ) (packet frame : List ℕ)
    : Type 0 where
  pub bytes : frame ≡ frame_of kind layout number port values packet
  pub four_bytes : number < 2 ^ 32
  pub one_byte : port < 256
  pub narrow : AreNarrow layout values
  pub short : length packet ≤ largest_packet

-- the bytes are a frame
pub record IsFrame (kind : ℕ) (layout : List Crossing) (frame : List ℕ) : Type 0 where
  pub number : ℕ
  pub port : ℕ
  pub values : Crossing → ℕ
  pub packet : List ℕ
  pub is : IsFrameOf kind layout number port values packet frame

-- What is told of a frame is what it is the frame of: its number and port, the values, which are put into registers,
-- and the packet, by the place of its first byte. The other registers stay.
pub record IsUnpacked
    (kind : ℕ) (layout : List Crossing) (frame : List ℕ) (before after : Registers) (head : Head)
    : Type 0 where
  pub is : IsFrameOf kind layout head.number head.port (value_in after) (drop head.packet_at frame) frame
  pub place : head.packet_at ≡ 6 + bytes_for (total layout)
  pub within : head.packet_at ≤ length frame
  pub kept : ChangesOnly layout before after

-- parts that are the same
pub record AreSame
    (layout : List Crossing) (number number' port port' : ℕ) (values values' : Crossing → ℕ) (packet packet' : List ℕ)
    : Type 0 where
  pub same_number : number ≡ number'
  pub same_port : port ≡ port'
  pub same_values : Agree layout values values'
  pub same_packet : packet ≡ packet'

-- what is told of a frame is these parts
abbrev pub IsReadBack : List Crossing → ℕ → ℕ → (Crossing → ℕ) → List ℕ → List ℕ → Registers → Head → Type 0
IsReadBack layout number port values packet frame registers head =
    AreSame layout head.number number head.port port (value_in registers) values (drop head.packet_at frame) packet
