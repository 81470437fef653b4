-- The answers of whole runs are sound.
use Rattle.std.proofs.Common.{◌≡◌, Bool, true, false, cond, List, Some, None, refl, sym, ◌∙◌}
use Rattle.std.specs.Prelude.{slice_get}
use Rattle.std.proofs.lemmas.Bool.{and_parts}
use Rattle.std.proofs.lemmas.Option.{same_Some, slice_get-get_or}
use Rattle.packet_fields.specs.declared.packet.Packet.{Packet}
use Rattle.packet_fields.specs.declared.verdict.Verdict.{Verdict}
use Rattle.output_commit.specs.Batches.{fits}
use Rattle.replay_state.specs.SoundAnswers.{AreSound, IsAlike}
use Rattle.run_model.specs.Meaning.{packet_at}
use Rattle.replay_state.specs.Program.{IsSplitProgram, Manner, SplitProgram, plain, setup_of}
use Rattle.output_commit.proofs.FitsByCount.{few as fits_each}

chosen : (b : Bool) (x y : Verdict) → cond b (Some x) None ≡ Some y → (b ≡ true) × (x ≡ y)
chosen true x y h = (refl, same_Some _ _ h)
chosen false x y h = cc

pub plain_sound : (s : SplitProgram) (packets : List Packet) (manner : Manner) → IsSplitProgram s packets → AreSound (setup_of s packets manner) (plain s packets)
plain_sound s packets manner law = record {
  start = law.start;
  each = λ n store low kept.
      let packet = packet_at packets n in
      let here : slice_get packets n ≡ Some packet = slice_get-get_or packets n _ low in
      let r = law.runs n packet store here kept in
      record {
        kept = r.kept;
        fast = λ verdict other h other_kept alike.
            let c = chosen (s.is_fast store packet) (s.verdict store packet) verdict h in
            let back : IsAlike s.replicated other store = λ o rep. sym (alike o rep) in
            let quick : s.is_fast other packet ≡ true = r.fast other other_kept back ∙ c.0 in
            ((law.runs n packet other here other_kept).stays quick, r.verdict other other_kept back c.0 ∙ c.1);
        changed = r.changed;
        taken = r.taken;
        room = r.few;
      };
  fits = λ us o f rep. fits_each s.writeback us (and_parts manner.merges (fits s.writeback us) f).1 o;
}
