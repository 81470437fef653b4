-- What the form of the frames that went up says of them.
use Rattle.std.proofs.Common.{ℕ, List, [], ◌∷◌}
use Rattle.std.specs.List.{AllByRecursion as Each}
use Rattle.packet_fields.specs.declared.packet.Packet.{Packet}
use Rattle.transfer_header.proofs.Laws.{frames_are_told_by_place-parts}
use Rattle.transfer_header.specs.Frames.{IsFrame}
use Rattle.switch_ir.specs.declared.port.UpEnd.TheVariants as up
use Rattle.switch_ir.specs.Port.{IsUpFrame}
use Rattle.replay_state.specs.Journal.{Call, CalledUp, CalledStageUp, FramesAre, GoesUpSo, IsNumbered, SentUp, UpAnswer}
use Rattle.replay_state.specs.Program.{packet_at}
use Rattle.split_answers.specs.Through.{end_of}
use Rattle.replay_contracts.specs.Called.{IsFormed}
use Rattle.replay_contracts.specs.Inputs.{Inputs, code_for, whole}

module _ (x : Inputs) where
  -- the frame has the layout of those that go up, and the number of its packet
  abbrev pub FormedFrame : ℕ → List ℕ → Type 0
  FormedFrame n frame = IsFrame 1 (code_for x).up frame × IsNumbered (whole x) n frame

  pub formed_frame : (n port : ℕ) (packet frame : List ℕ) → IsUpFrame (code_for x) n port packet (up.Up frame) → FormedFrame n frame
  formed_frame n port packet frame h = (
    record { number = n; port = port; values = h.0; packet = packet; is = h.1 },
    (frames_are_told_by_place-parts 1 (code_for x).up n port h.0 packet frame h.1).numbered,
  )

  module _ (P : ℕ → List ℕ → Type 0) (of : (n : ℕ) (frame : List ℕ) → FormedFrame n frame → P n frame) where
    goes_so : (n : ℕ) (packet : Packet) (answer : UpAnswer) → IsUpFrame (code_for x) n packet.port packet.bytes (end_of answer) → GoesUpSo P n answer
    goes_so n packet (SentUp frame) h = of n frame (formed_frame n packet.port packet.bytes frame h)
    goes_so n packet answer h = tt

    -- what follows from its form holds of each frame that went up
    pub frames_are : (calls : List Call) → Each (IsFormed (code_for x) x.packets) calls → FramesAre P calls
    frames_are [] h = tt
    frames_are (CalledUp fine n packet answer ∷ calls) h = (goes_so n packet answer h.0, frames_are calls h.1)
    frames_are (CalledStageUp n answer ∷ calls) h = (goes_so n (packet_at x.packets n) answer h.0, frames_are calls h.1)
    frames_are (call ∷ calls) h = frames_are calls h.1
