-- Postprocessing hangs on what crosses down alone, and on the server's numbers for fields.
use Rattle.std.proofs.Common.{◌≡◌, true, false, List, [], refl, sym, ◌∙◌, ⊎_elim, slice_index, if◌then◌else◌}
use Rattle.std.proofs.lemmas.Bool.{cases_Bool, cond-true, cond-false}
use Rattle.packet_fields.specs.declared.packet.Packet.{Packet}
use Rattle.state_store.specs.Store.{Store}
use Rattle.flat_ir.specs.declared.program.FieldValue.{FieldValue}
use Rattle.flat_ir.specs.declared.program.ValueId.{ValueId}
use Rattle.flat_ir.specs.Blocks.{Reading, nothing}
use Rattle.flat_ir.specs.Program.{Program, step_at}
use Rattle.flat_ir.specs.Run.{results}
use Rattle.split_model.specs.Crossing.{is_at_hand, is_written_value, crosses_down}
use Rattle.split_model.specs.declared.split.Part.{Part}
use Rattle.split_model.specs.Laws.{IsSentAlike}
use Rattle.split_model.specs.Passes.{IsHanded, given_down, post_values, leaving}
use Rattle.split_model.specs.Split.{post_stage, is_post}
use Rattle.split_model.proofs.Crossings.{each_written}
use Rattle.split_model.proofs.Sights.{sent_same, writes_same}
use Rattle.split_model.proofs.Stages.{pass_alike}
use Rattle.lemmas.proofs.Lists.{each_weaker}

module _ (f : Program) (split : List Part) (tables : Store) (packet : Packet) (server down other_server other_down : Reading) (written : IsHanded (is_written_value f split) server other_server) (handed : IsHanded (crosses_down f split) down other_down) where
  abbrev Q : Reading
  Q = post_values f split down tables packet

  abbrev R : Reading
  R = post_values f split other_down tables packet

  given_alike : (v : ValueId) → given_down f split other_down packet v ≡ given_down f split down packet v
  given_alike v =
      let hand = if is_at_hand f split (step_at f v.instruction).work then slice_index (results nothing false [] packet (step_at f v.instruction).work) v.result else 0 in
      ⊎_elim
      (λ across. cond-true (crosses_down f split v) (other_down v) hand across ∙ handed v across ∙ sym (cond-true (crosses_down f split v) (down v) hand across))
      (λ stays. cond-false (crosses_down f split v) (other_down v) hand stays ∙ sym (cond-false (crosses_down f split v) (down v) hand stays))
      (cases_Bool (crosses_down f split v))

  values_alike : (v : ValueId) → R v ≡ Q v
  values_alike v = pass_alike f (post_stage split) (given_down f split other_down packet) (given_down f split down packet) tables tables packet packet given_alike (λ u some r. refl) v

  leaves_alike : (w : FieldValue) → (is_post split w.value.instruction ≡ false → is_written_value f split w.value ≡ true) → leaving split other_server R w.value ≡ leaving split server Q w.value
  leaves_alike w set =
      ⊎_elim
      (λ post. cond-true (is_post split w.value.instruction) (R w.value) (other_server w.value) post ∙ values_alike w.value ∙ sym (cond-true (is_post split w.value.instruction) (Q w.value) (server w.value) post))
      (λ apart. cond-false (is_post split w.value.instruction) (R w.value) (other_server w.value) apart ∙ written w.value (set apart) ∙ sym (cond-false (is_post split w.value.instruction) (Q w.value) (server w.value) apart))
      (cases_Bool (is_post split w.value.instruction))

  pub sent_alike : IsSentAlike f split tables packet server down other_server other_down
  sent_alike =
      let L = leaving split other_server R in
      let M = leaving split server Q in
      record {
        values = values_alike;
        verdict = sent_same (values_alike f.send) (values_alike f.port)
            (writes_same L M f.fields packet.bytes (each_weaker (λ (w : FieldValue). is_post split w.value.instruction ≡ false → is_written_value f split w.value ≡ true) (λ (w : FieldValue). L w.value ≡ M w.value) leaves_alike f.fields (each_written split f.fields)));
      }
