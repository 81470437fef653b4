-- Postprocessing reads constant tables alone.
use Rattle.std.proofs.Common.{◌≡◌, ℕ, ◌<◌, true, false, List, length, refl, sym, ◌∙◌}
use Rattle.packet_fields.specs.declared.packet.Packet.{Packet}
use Rattle.state_store.specs.Store.{Store, object_at}
use Rattle.flat_ir.specs.declared.program.FieldValue.{FieldValue}
use Rattle.flat_ir.specs.declared.program.ValueId.{ValueId}
use Rattle.flat_ir.specs.Blocks.{Reading}
use Rattle.flat_ir.specs.Laws.{Same}
use Rattle.flat_ir.specs.Program.{Program, step_at}
use Rattle.flat_ir.specs.Run.{results}
use Rattle.state_store.specs.Kinds.{is_constant}
use Rattle.split_model.specs.declared.split.Part.{Part}
use Rattle.split_model.specs.Laws.{HasDeclaredTables, IsPostedAlike}
use Rattle.split_model.specs.Legal.{IsLegal}
use Rattle.split_model.specs.Passes.{given_down, post_values, post_fields}
use Rattle.split_model.specs.Shown.{looks_at}
use Rattle.split_model.specs.Split.{post_stage, is_post}
use Rattle.split_model.proofs.CarriedValues.{declared_at, constant_sight, post_shown}
use Rattle.split_model.proofs.Descents.{post_inside}
use Rattle.split_model.proofs.Rules.{post_kind, post_look}
use Rattle.split_model.proofs.Sights.{seen_same, sent_same, writes_same}
use Rattle.split_model.proofs.Stages.{pass_alike}
use Rattle.lemmas.proofs.Lists.{each_all}

module _ (f : Program) (split : List Part) (tables other : Store) (packet : Packet) (down : Reading) (legal : IsLegal f split) (loaded : HasDeclaredTables f split tables) (loaded' : HasDeclaredTables f split other) where
  -- an object that it looks up is a constant table, which both have
  same_table : (i o : ℕ) → i < length f.code → is_post split i ≡ true → is_constant f.objects o ≡ true → looks_at o (step_at f i).work ≡ true → object_at other o ≡ object_at tables o
  same_table i o within post constant looks =
      let d = declared_at f.objects o constant in
      let shown = post_shown f split i o within post looks in
      loaded'.rows o d.0 d.1 d.2 shown ∙ sym (loaded.rows o d.0 d.1 d.2 shown)

  seen_alike : (v : ValueId) → is_post split v.instruction ≡ true → (r : Reading) → results r false other packet (step_at f v.instruction).work ≡ results r false tables packet (step_at f v.instruction).work
  seen_alike v post r =
      let i = v.instruction in
      let within = post_inside f split legal i (post_stage split i) refl post in
      seen_same r false false other tables packet (step_at f i).work (post_kind f split legal i within post)
      (constant_sight f other tables (step_at f i).work (λ o. same_table i o within post) (post_look f split legal i within post))

  values_alike : (v : ValueId) → post_values f split down other packet v ≡ post_values f split down tables packet v
  values_alike v = pass_alike f (post_stage split) (given_down f split down packet) (given_down f split down packet) other tables packet packet (λ u. refl) seen_alike v

  pub posted_alike : IsPostedAlike f split tables other packet down
  posted_alike =
      let Q = post_values f split down tables packet in
      let R = post_values f split down other packet in
      let own = post_fields f split in
      record {
        values = values_alike;
        verdict = sent_same (values_alike f.send) (values_alike f.port)
            (writes_same R Q own packet.bytes (each_all (λ (w : FieldValue). Same R Q w.value) (λ w. values_alike w.value) own));
      }
