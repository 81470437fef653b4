-- What holds of frames and registers, as the definitions give it.
use Rattle.std.proofs.Common.{subst}
use Rattle.std.specs.Prelude.{List, None, Some, length, ℕ, ◌<◌, ◌^◌, ◌↔◌, ◌≡◌, ◌≤◌}
use Rattle.flat_ir.specs.Blocks.{Reading}
use Rattle.flat_ir.specs.Plan.{AreApart, AreBelow, IsGreatestOverlap, RegisterPlan, register_of}
use Rattle.flat_ir.specs.Program.{Program}
use Rattle.flat_ir.specs.Spans.{spans_of}
use Rattle.flat_ir.specs.declared.spans.Span.{Span}
use Rattle.packet_fields.specs.Sizes.{largest_packet}
use Rattle.split_model.specs.Crossing.{crosses_down, crosses_up}
use Rattle.split_model.specs.Laws.{FitAcross}
use Rattle.split_model.specs.Layouts.{down_layout, up_layout, values_of}
use Rattle.split_model.specs.Passes.{IsHanded}
use Rattle.split_model.specs.declared.layout.Crossing.{Crossing}
use Rattle.split_model.specs.declared.split.Part.{Part}
use Rattle.transfer_header.proofs.ByPlace.{values_told}
use Rattle.transfer_header.proofs.Numbers.{crossings_fit, crossings_rise, from_all, named_down, named_up, to_all}
pub use Rattle.transfer_header.proofs.ByPlace.{frames_are_told_by_place-parts, frames_are_told_by_place-unpacked, frames_of_low_bits-bytes, frames_of_low_bits-narrow}
pub use Rattle.transfer_header.proofs.LayoutInRegisters.{needed_values_fit}
pub use Rattle.transfer_header.proofs.Numbers.{values_have_their_numbers}
pub use Rattle.transfer_header.proofs.PassInRegisters.{a_list_is_written, a_pass_in_registers, a_plan_keeps_apart, a_step_in_registers}
pub use Rattle.transfer_header.proofs.WholeFrames.{frames_of_equal_values, frames_tell_their_parts}
pub use Rattle.transfer_header.proofs.Writes.{a_write_keeps_others}
use Rattle.transfer_header.specs.Frames.{IsFrame, IsFrameOf, frame_of}
use Rattle.transfer_header.specs.Plans.{IsPlanOf}
use Rattle.transfer_header.specs.Registers.{FitsLayout, Holds, IsRising, Registers, reads_of, value_in}
use Rattle.transfer_header.specs.Steps.{AreKeptApart}
use Rattle.transfer_header.specs.Told.{AreToldByPlace, reads_in}
use Rattle.transfer_header.specs.Values.{AreNarrow, low_bits, value_by}

-- A frame says of each value its lowest bits alone. These are narrow, so that the bytes are their frame, where number,
-- port and packet have room.
pub frames_of_low_bits-frame : (kind : ℕ) (layout : List Crossing) (number port : ℕ) (values : Crossing → ℕ) (packet : List ℕ)
    → number < 2 ^ 32 → port < 256 → length packet ≤ largest_packet
    → IsFrameOf kind layout number port (low_bits values) packet
    (frame_of kind layout number port values packet)
frames_of_low_bits-frame kind layout number port values packet four_bytes one_byte short = record {
  bytes = frames_of_low_bits-bytes kind layout number port values packet;
  four_bytes = four_bytes;
  one_byte = one_byte;
  narrow = frames_of_low_bits-narrow layout values;
  short = short;
}

-- What crosses stands in a frame by place.
pub frames_are_told_by_place-up : (f : Program) (split : List Part) (kind number port : ℕ) (values : Crossing → ℕ)
    (packet frame : List ℕ) → IsFrameOf kind (up_layout f split) number port values packet frame
    → AreToldByPlace f (crosses_up f split) (up_layout f split) values frame
frames_are_told_by_place-up f split kind number port values packet frame = values_told f (crosses_up f split) kind number port values packet frame (named_up f split)

pub frames_are_told_by_place-down : (f : Program) (split : List Part) (kind number port : ℕ) (values : Crossing → ℕ)
    (packet frame : List ℕ) → IsFrameOf kind (down_layout f split) number port values packet frame
    → AreToldByPlace f (crosses_down f split) (down_layout f split) values frame
frames_are_told_by_place-down f split kind number port values packet frame = values_told f (crosses_down f split) kind number port values packet frame (named_down f split)

pub frames_are_told_by_place-narrow_up : (f : Program) (split : List Part) (kind : ℕ) (frame : List ℕ)
    → IsFrame kind (up_layout f split) frame
    → FitAcross f (crosses_up f split) (reads_in (up_layout f split) frame)
frames_are_told_by_place-narrow_up f split kind frame is = (values_told f (crosses_up f split) kind is.number is.port is.values is.packet frame (named_up f split) is.is).narrow

pub frames_are_told_by_place-narrow_down : (f : Program) (split : List Part) (kind : ℕ) (frame : List ℕ)
    → IsFrame kind (down_layout f split) frame
    → FitAcross f (crosses_down f split) (reads_in (down_layout f split) frame)
frames_are_told_by_place-narrow_down f split kind frame is = (values_told f (crosses_down f split) kind is.number is.port is.values is.packet frame (named_down f split) is.is).narrow

-- Registers for all values of a program have one for each value that crosses, whatever the split. What crosses stands
-- in a layout at rising numbers.
pub layouts_fit-up : (f : Program) (split : List Part) (registers : Registers)
    → registers.plan ≡ None → length registers.numbers ≡ length (values_of f)
    → FitsLayout (up_layout f split) registers
layouts_fit-up f split = crossings_fit f (crosses_up f split)

pub layouts_fit-down : (f : Program) (split : List Part) (registers : Registers)
    → registers.plan ≡ None → length registers.numbers ≡ length (values_of f)
    → FitsLayout (down_layout f split) registers
layouts_fit-down f split = crossings_fit f (crosses_down f split)

pub layouts_fit-rising : (f : Program) (split : List Part)
    → (IsRising (up_layout f split)) × (IsRising (down_layout f split))
layouts_fit-rising f split = (crossings_rise f (crosses_up f split), crossings_rise f (crosses_down f split))

-- Registers hold a reading's numbers of what crosses exactly where they hand it on.
pub what_crosses_is_held-up : (f : Program) (split : List Part) (registers : Registers) (reads : Reading)
    → (Holds (up_layout f split) registers reads)
    ↔ (IsHanded (crosses_up f split) reads (reads_of f registers))
what_crosses_is_held-up f split registers reads = (from_all f (crosses_up f split) (λ (q : Crossing). value_in registers q ≡ value_by reads q) (named_up f split), to_all f (crosses_up f split) (λ (q : Crossing). value_in registers q ≡ value_by reads q))

pub what_crosses_is_held-down : (f : Program) (split : List Part) (registers : Registers) (reads : Reading)
    → (Holds (down_layout f split) registers reads)
    ↔ (IsHanded (crosses_down f split) reads (reads_of f registers))
what_crosses_is_held-down f split registers reads = (from_all f (crosses_down f split) (λ (q : Crossing). value_in registers q ≡ value_by reads q) (named_down f split), to_all f (crosses_down f split) (λ (q : Crossing). value_in registers q ≡ value_by reads q))

-- The values of a layout have no more bits than their widths exactly where this is so of all that crosses.
pub what_crosses_is_narrow-up : (f : Program) (split : List Part) (reads : Reading)
    → (AreNarrow (up_layout f split) (value_by reads)) ↔ (FitAcross f (crosses_up f split) reads)
what_crosses_is_narrow-up f split reads = (from_all f (crosses_up f split) (λ (q : Crossing). value_by reads q < 2 ^ q.width) (named_up f split), to_all f (crosses_up f split) (λ (q : Crossing). value_by reads q < 2 ^ q.width))

pub what_crosses_is_narrow-down : (f : Program) (split : List Part) (reads : Reading)
    → (AreNarrow (down_layout f split) (value_by reads)) ↔ (FitAcross f (crosses_down f split) reads)
what_crosses_is_narrow-down f split reads = (from_all f (crosses_down f split) (λ (q : Crossing). value_by reads q < 2 ^ q.width) (named_down f split), to_all f (crosses_down f split) (λ (q : Crossing). value_by reads q < 2 ^ q.width))

pub what_crosses_is_narrow-registers_up : (f : Program) (split : List Part) (registers : Registers)
    → (AreNarrow (up_layout f split) (value_in registers))
    ↔ (FitAcross f (crosses_up f split) (reads_of f registers))
what_crosses_is_narrow-registers_up f split registers = (from_all f (crosses_up f split) (λ (q : Crossing). value_in registers q < 2 ^ q.width) (named_up f split), to_all f (crosses_up f split) (λ (q : Crossing). value_in registers q < 2 ^ q.width))

pub what_crosses_is_narrow-registers_down : (f : Program) (split : List Part) (registers : Registers)
    → (AreNarrow (down_layout f split) (value_in registers))
    ↔ (FitAcross f (crosses_down f split) (reads_of f registers))
what_crosses_is_narrow-registers_down f split registers = (from_all f (crosses_down f split) (λ (q : Crossing). value_in registers q < 2 ^ q.width) (named_down f split), to_all f (crosses_down f split) (λ (q : Crossing). value_in registers q < 2 ^ q.width))

-- What gives registers to what has a span, and no more of them than values that are needed at one step, is a plan of
-- the spans, and in its registers such values are apart.
pub plans_of_spans-made : (spans : List Span) (plan : RegisterPlan)
    → ((value : ℕ) → (register_of plan value ≡ None) ↔ (spans_of spans value ≡ 0))
    → AreBelow plan.rows plan.count → AreApart spans plan.rows → IsGreatestOverlap spans plan.count
    → IsPlanOf spans plan
plans_of_spans-made spans plan registers below apart greatest = record {
  registers = registers;
  below = below;
  apart = apart;
  enough = greatest.all;
  fewest = λ count bound. subst (λ n. n ≤ count) greatest.some.1 (bound greatest.some.0);
}

pub plans_of_spans-apart : (spans : List Span) (plan : RegisterPlan) (registers : Registers)
    → IsPlanOf spans plan → registers.plan ≡ Some plan → AreKeptApart spans registers
plans_of_spans-apart spans plan registers is = a_plan_keeps_apart spans plan registers is.registers is.apart
