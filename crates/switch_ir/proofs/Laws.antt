-- What holds of the code of every legally split program, as the definitions give it.
use Rattle.std.proofs.Common.{◌≡◌, ℕ, true, List, Some, length, slice_get, subst, sym, arith}
use Rattle.state_store.specs.declared.object.ObjectDecl.{ObjectDecl}
use Rattle.state_store.specs.Kept.{IsKeptObject}
use Rattle.flat_ir.specs.declared.program.FieldValue.{FieldValue}
use Rattle.flat_ir.specs.Program.{Program}
use Rattle.flat_ir.specs.WellFormed.{IsWellFormed, IsWritten}
use Rattle.split_model.specs.Bounds.{IsSmall}
use Rattle.split_model.specs.declared.split.Part.{Part}
use Rattle.split_model.specs.Split.{is_post, pre_stage, post_stage}
use Rattle.transfer_header.proofs.Laws.{layouts_fit-rising}
use Rattle.switch_ir.specs.Code.{Code}
use Rattle.switch_ir.specs.Emitted.{emitted, given_stage, IsEmitted}
use Rattle.switch_ir.specs.Sound.{IsWritable, IsSound, CanBeRun}
use Rattle.switch_ir.proofs.NeededValues.{down_needed, up_needed}
use Rattle.switch_ir.proofs.Soundness.{all_at, declared_among, rest_there, starts, steps_can, tables_rise, IsPlaced}
use Rattle.lemmas.proofs.Lists.{each_filter, each_weaker}
pub use Rattle.switch_ir.proofs.ComputedPasses.{what_is_emitted_computes_the_split}
pub use Rattle.switch_ir.proofs.PassesByStages.{what_is_emitted_goes_by_stages}
pub use Rattle.switch_ir.proofs.Spanned.{passes_have_spans}

-- What a switch can rely on holds of the code of every legally split program.
module _ (code : Code) (made : IsEmitted code) where
  abbrev f : Program
  f = made.program

  abbrev split : List Part
  split = made.split

  abbrev well : IsWellFormed f
  well = made.bounded.formed

  sound_at : (o : ℕ) (d : ObjectDecl) → IsPlaced 0 f.objects o d → IsSound d
  sound_at o d found =
      let here : slice_get f.objects found.0 ≡ Some d = found.2 in
      record {
        start = subst (IsKeptObject d) (starts f.objects found.0 d here) (made.kept.each found.0 d here);
        size = (all_at IsSmall f.objects found.0 d made.bounded.small here).size;
      }

  sound : CanBeRun (emitted f split code.writeback)
  sound = record {
    pre = steps_can f (pre_stage split) (length f.code) made.runs (omega arith);
    post = steps_can f (post_stage split) (length f.code) made.runs (omega arith);
    given = steps_can f (given_stage f split) (length f.code) made.runs (omega arith);
    blocks = well.parents;
    rest = rest_there f split well (length f.code) (omega arith);
    pre_fields = each_weaker (IsWritten f) IsWritable (λ w is. is.writable) f.fields well.fields;
    post_fields = each_filter IsWritable (λ (w : FieldValue). is_post split w.value.instruction) f.fields
        (each_weaker (IsWritten f) (λ w. is_post split w.value.instruction ≡ true → IsWritable w) (λ w is own. is.writable) f.fields well.fields);
    stages = what_is_emitted_goes_by_stages f split code.writeback made.bounded made.legal;
    up = (layouts_fit-rising f split).0;
    up_needed = up_needed f split made.legal code.writeback;
    down = (layouts_fit-rising f split).1;
    down_needed = down_needed f split code.writeback;
    rising = tables_rise f split 0 f.objects;
    tables = λ o d is. sound_at o d (declared_among f split 0 f.objects o d is);
    writeback = made.writeback;
  }

  -- A switch can run the code that a split is compiled to: this is what a machine asks of the code that it is made with.
  pub what_is_emitted_can_be_run : CanBeRun code
  what_is_emitted_can_be_run = subst CanBeRun (sym made.is) sound
