-- What comes of a packet.
use Rattle.std.proofs.Common.{◌≡◌, ◌<◌, ℕ, suc, true, ◌-◌, List, [], ◌∷◌, length, map, take, drop, length-drop, ◌∙◌, subst}
use Rattle.std.specs.List.{filter, AllByRecursion as Each}
use Rattle.std.proofs.Math.Seq.{take-length}
use Rattle.packet_fields.specs.declared.packet.Packet.{Packet}
use Rattle.state_store.specs.Store.{Store}
use Rattle.flat_ir.specs.declared.program.FieldValue.{FieldValue}
use Rattle.flat_ir.specs.declared.program.ValueId.{ValueId}
use Rattle.flat_ir.specs.Blocks.{Reading}
use Rattle.flat_ir.specs.Program.{is_named, Program}
use Rattle.flat_ir.specs.Run.{with_writes, Machine}
use Rattle.flat_ir.specs.WellFormed.{IsWellFormed, IsWritten}
use Rattle.flat_ir.specs.Writable.{IsWritable}
use Rattle.split_model.specs.declared.split.Part.{Part}
use Rattle.split_model.specs.Crossing.{crosses_down, is_server_write}
use Rattle.split_model.specs.Layouts.{down_values, number_of, up_layout}
use Rattle.split_model.specs.Passes.{server_fields, server_run, IsHanded}
use Rattle.transfer_header.specs.declared.frame.Head.{Head}
use Rattle.transfer_header.specs.Told.{number_in, packet_in, reads_in}
use Rattle.transfer_header.specs.Registers.{content_of, reads_of, Registers}
use Rattle.transfer_header.specs.Steps.{is_among, IsDoneAlike}
use Rattle.server_runtime.specs.declared.run.Ran.{Ran}
use Rattle.server_runtime.specs.Registers.{handed, register_reads}
use Rattle.server_runtime.specs.Running.{contents_at, server_steps}
use Rattle.server_runtime.specs.Spans.{numbers_of, server_spans, values_kept}
use Rattle.server_runtime.specs.StepsTaken.{IsOutcome, IsRead}
use Rattle.server_runtime.proofs.Alike.{each_right}
use Rattle.server_runtime.proofs.Contents.{each_among, each_and, reading_is, reads_back}
use Rattle.server_runtime.proofs.Needed.{down_kept, down_named, kept_read}
use Rattle.server_runtime.proofs.Spanned.{kept_earlier}
use Rattle.split_model.proofs.Sights.{writes_same}
use Rattle.lemmas.proofs.Lists.{each_filter, each_weaker}

-- ## Fields

-- the fields that the server sets can be written
pub are_writable : (f : Program) (split : List Part) (ws : List FieldValue) → Each (IsWritten f) ws → Each IsWritable (filter (is_server_write split) ws)
are_writable f split ws h =
    each_filter IsWritable (is_server_write split) ws
    (each_weaker (IsWritten f) (λ (w : FieldValue). is_server_write split w ≡ true → IsWritable w) (λ w is e. is.writable) ws h)

-- ## What is read once all instructions are done

each_of_map : (P : ValueId → Type 0) (ws : List FieldValue) → Each P (map (λ (w : FieldValue). w.value) ws) → Each (λ (w : FieldValue). P w.value) ws
each_of_map P [] h = tt
each_of_map P (w ∷ ws) h = (h.0, each_of_map P ws h.1)

module _ (f : Program) (split : List Part) (well : IsWellFormed f)
    (up : Reading) (st : Store) (packet : Packet) (registers : Registers)
    (alike : IsDoneAlike (server_steps f split up st packet) (server_spans f split) registers (contents_at f split up st packet (length f.code)) (suc (length f.code))) where
  abbrev run : Machine
  run = server_run f split up st packet

  kept_one : (v : ValueId) → is_named f v ≡ true → is_among (number_of f v) (numbers_of f (values_kept f split)) ≡ true → content_of registers (number_of f v) ≡ run.reads v
  kept_one v named among = alike.reads (number_of f v) (kept_read f split well (number_of f v) among) ∙ reads_back f run.reads v named

  -- registers hand on what crosses down
  pub handed_on : IsHanded (crosses_down f split) run.reads (reads_of f registers)
  handed_on v e = kept_one v (down_named f split well v e) (down_kept f split well v e)

  -- and hold the numbers of the fields
  pub sets_fields : (bytes : List ℕ) → with_writes (server_fields f split) (register_reads f registers) bytes ≡ with_writes (server_fields f split) run.reads bytes
  sets_fields bytes =
      writes_same (register_reads f registers) run.reads (server_fields f split) bytes
      (each_of_map (λ v. register_reads f registers v ≡ run.reads v) (server_fields f split)
      (each_right (λ v. register_reads f registers v ≡ run.reads v) (down_values f split) (map (λ (w : FieldValue). w.value) (server_fields f split))
      (each_and (λ v. (is_named f v ≡ true) × (v.instruction < length f.code)) (λ v. is_among (number_of f v) (numbers_of f (values_kept f split)) ≡ true) (λ v. register_reads f registers v ≡ run.reads v)
      (λ v named among. reading_is f (content_of registers) v named.0 ∙ kept_one v named.0 among)
      (values_kept f split) (kept_earlier f split well) (each_among f (values_kept f split)))))

-- ## Of a frame

pub part_is : (xs : List ℕ) (n : ℕ) → take (length xs - n) (drop n xs) ≡ drop n xs
part_is xs n = subst (λ k. take k (drop n xs) ≡ drop n xs) (length-drop n xs) (take-length (drop n xs))

-- what comes of a packet comes of the frame in which it was read
pub outcome_read : (f : Program) (split : List Part) (st after : Store) (frame : List ℕ) (registers : Registers) (bytes : List ℕ) (head : Head) (ran : Ran)
    → IsRead f split frame registers head → bytes ≡ drop head.packet_at frame
    → IsOutcome f split st head.number (record { port = head.port; bytes = bytes }) (handed f split registers) after ran
    → IsOutcome f split st (number_in frame) (packet_in (up_layout f split) frame) (reads_in (up_layout f split) frame) after ran
outcome_read f split st after frame registers bytes head ran read same h =
    let layout = up_layout f split in
    let packet : record { port = head.port; bytes = bytes } ≡ packet_in layout frame = (λ p. record { port = head.port; bytes = same p }) ∙ read.packet in
    subst (λ n. IsOutcome f split st n (packet_in layout frame) (reads_in layout frame) after ran) read.number
    (subst (λ p. IsOutcome f split st head.number p (reads_in layout frame) after ran) packet
    (subst (λ r. IsOutcome f split st head.number (record { port = head.port; bytes = bytes }) r after ran) read.reads h))
