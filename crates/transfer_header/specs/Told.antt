-- What stands in a frame, by place.
use Rattle.std.specs.Prelude.{◌≡◌, ℕ, ◌+◌, Bool, true, List, [], ◌∷◌, if◌then◌else◌, slice_index, take, drop}
use Rattle.packet_fields.specs.declared.packet.Packet.{Packet}
use Rattle.flat_ir.specs.declared.program.ValueId.{ValueId}
use Rattle.flat_ir.specs.Blocks.{Reading}
use Rattle.flat_ir.specs.Program.{Program}
use Rattle.split_model.specs.declared.layout.Crossing.{Crossing}
use Rattle.split_model.specs.Crossing.{is_value}
use Rattle.split_model.specs.Layouts.{crossing}
use Rattle.transfer_header.specs.Bits.{bits_in, bytes_for, number_from}
use Rattle.transfer_header.specs.Values.{total}
use Rattle.split_model.specs.Laws.{FitAcross}

-- the number of the packet, in the four bytes behind the kind, and the port behind them
abbrev pub number_in : List ℕ → ℕ
number_in frame = number_from (bits_in (take 4 (drop 1 frame)))

abbrev pub port_in : List ℕ → ℕ
port_in frame = slice_index frame 5

-- the number of a value in bits that are those of a layout, 0 where the layout hasn't it
abbrev pub value_among : List Crossing → List ℕ → ValueId → ℕ
value_among [] bits v = 0
value_among (c ∷ cs) bits v =
    if is_value c.value v then number_from (take c.width bits) else value_among cs (drop c.width bits) v

-- the numbers of the values of a layout in a frame
abbrev pub reads_in : List Crossing → List ℕ → Reading
reads_in layout frame v = value_among layout (bits_in (drop 6 frame)) v

-- the packet behind them
abbrev pub packet_in : List Crossing → List ℕ → Packet
packet_in layout frame = record { port = port_in frame; bytes = drop (6 + bytes_for (total layout)) frame }

-- by place stand in the bytes this number, this port and this packet
pub record IsToldByPlace (layout : List Crossing) (number port : ℕ) (packet frame : List ℕ) : Type 0 where
  pub numbered : number_in frame ≡ number
  pub arrived : port_in frame ≡ port
  pub carries : packet_in layout frame ≡ record { port = port; bytes = packet }

-- and of the values of a program that cross these numbers, with no more bits than their widths
pub record AreToldByPlace
    (f : Program) (crosses : ValueId → Bool) (layout : List Crossing) (values : Crossing → ℕ) (frame : List ℕ)
    : Type 0 where
  pub numbers : (v : ValueId) → crosses v ≡ true → reads_in layout frame v ≡ values (crossing f v)
  pub narrow : FitAcross f crosses (reads_in layout frame)
