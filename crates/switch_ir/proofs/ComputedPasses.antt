-- The code of a legal split computes its passes.
use Rattle.std.proofs.Common.{◌≡◌, ◌≤◌, ℕ, ◌==◌, ◌%◌, ◌^◌, true, List, length, Some, None, ap, ◌∙◌, arith, slice_index_or, if◌then◌else◌}
use Rattle.std.proofs.lemmas.List.{get_or_past}
use Rattle.packet_fields.specs.declared.packet.Packet.{Packet}
use Rattle.packet_fields.specs.declared.verdict.Verdict.TheVariants.{Drop, Send}
use Rattle.state_store.specs.Store.{Store}
use Rattle.flat_ir.specs.declared.program.ValueId.{ValueId}
use Rattle.flat_ir.specs.Program.{Program}
use Rattle.flat_ir.specs.Blocks.{Reading, nothing, is_live}
use Rattle.flat_ir.specs.Run.{with_writes}
use Rattle.split_model.specs.declared.split.Part.{Part}
use Rattle.split_model.specs.declared.split.Slow.TheVariants.{Server}
use Rattle.split_model.specs.Legal.{IsLegal}
use Rattle.split_model.specs.Passes.{down_verdict, meets_rest, pre_values, given_down, post_fields, post_values}
use Rattle.split_model.specs.Split.{pre_stage, post_stage, stage_after}
use Rattle.transfer_header.specs.Values.{value_by}
use Rattle.switch_ir.specs.Code.{Code}
use Rattle.switch_ir.specs.Emitted.{emitted, is_used_after, Computes}
use Rattle.switch_ir.specs.Meaning.{up_values, goes_up, leaves, down_end, down_given, down_values}
use Rattle.switch_ir.proofs.Alike.{fields_alike, pass_alike, port_used, send_used}
use Rattle.switch_ir.proofs.Passes.{IsWithin, computes}
use Rattle.switch_ir.proofs.Rests.{rest_passes}
use Rattle.switch_ir.proofs.PostStart.{given_same}

module _ (f : Program) (split : List Part) (writeback : ℕ) (legal : IsLegal f split) where
  abbrev code : Code
  code = emitted f split writeback

  no_part : (i : ℕ) → length f.code ≤ i → slice_index_or split i (record { pre = None; slow = Server }) ≡ record { pre = None; slow = Server }
  no_part i le = get_or_past split i (record { pre = None; slow = Server }) (omega (arith, legal.count, le))

  pre_within : IsWithin f (pre_stage split)
  pre_within i le = ap (λ (p : Part). p.pre) (no_part i le)

  post_within : IsWithin f (post_stage split)
  post_within i le = ap (λ (p : Part). stage_after p.slow) (no_part i le)

  up_same : (tables : Store) (packet : Packet) (v : ValueId) → up_values code tables packet v ≡ pre_values f split tables packet v
  up_same tables packet v = computes f (pre_stage split) pre_within nothing tables packet v

  up_is : (tables : Store) (packet : Packet) → up_values code tables packet ≡ pre_values f split tables packet
  up_is tables packet = λ i. λ v. up_same tables packet v i

  rest_same : (reads : Reading) → goes_up code reads ≡ meets_rest f split reads
  rest_same reads = rest_passes (is_live f.blocks reads) f split

  down_same : (down : Reading) (tables : Store) (packet : Packet) (v : ValueId) → is_used_after f split v ≡ true
      → down_values code (value_by down) tables packet v ≡ post_values f split down tables packet v
  down_same down tables packet v used =
      computes f (post_stage split) post_within (down_given code (value_by down) packet) tables packet v
      ∙ pass_alike f split legal post_within tables packet (down_given code (value_by down) packet) (given_down f split down packet)
      (λ w post read. given_same f split packet w writeback down post read) v used

  verdict_same : (down : Reading) (tables : Store) (packet : Packet)
      → down_end code (value_by down) tables packet ≡ down_verdict f split down tables packet
  verdict_same down tables packet =
      let R = down_values code (value_by down) tables packet in
      let Q = post_values f split down tables packet in
      ap (λ n. if n == 0 then Drop else Send (R f.port % 2 ^ 8) (with_writes (post_fields f split) R packet.bytes)) (down_same down tables packet f.send (send_used f split))
      ∙ ap (λ n. if Q f.send == 0 then Drop else Send (n % 2 ^ 8) (with_writes (post_fields f split) R packet.bytes)) (down_same down tables packet f.port (port_used f split))
      ∙ ap (λ bytes. if Q f.send == 0 then Drop else Send (Q f.port % 2 ^ 8) bytes) (fields_alike f split R Q packet.bytes (down_same down tables packet))

  -- The code of a legally split program computes what its parts on the switch are to compute, over any tables.
  pub what_is_emitted_computes_the_split : Computes f split code
  what_is_emitted_computes_the_split = record {
    up = up_same;
    rest = rest_same;
    finished = λ tables packet.
        ap (λ b. if b then None else Some (leaves code.pre (up_values code tables packet) packet)) (rest_same (up_values code tables packet))
        ∙ ap (λ (r : Reading). if meets_rest f split r then None else Some (leaves code.pre r packet)) (up_is tables packet);
    down = down_same;
    verdict = verdict_same;
  }
