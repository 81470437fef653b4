-- What a pass over the tables that are told answers.
use Rattle.std.proofs.Common.{◌≡◌, ◌<◌, ◌^◌, ℕ, Bool, true, false, List, Some, None, refl, sym, ap, ◌∙◌, if◌then◌else◌}
use Rattle.std.proofs.lemmas.Bool.{cond-true}
use Rattle.packet_fields.specs.declared.packet.Packet.{Packet}
use Rattle.packet_fields.specs.declared.verdict.Verdict.{Verdict}
use Rattle.state_store.specs.Kept.{IsKept}
use Rattle.state_store.specs.Store.{Store, start_store}
use Rattle.flat_ir.specs.declared.program.ValueId.{ValueId}
use Rattle.flat_ir.specs.Blocks.{Reading}
use Rattle.flat_ir.specs.Program.{Program}
use Rattle.flat_ir.specs.Run.{flat_verdict}
use Rattle.flat_ir.specs.WellFormed.{HasConstantTables}
use Rattle.split_model.specs.declared.layout.Crossing.{Crossing}
use Rattle.split_model.specs.declared.split.Part.{Part}
use Rattle.split_model.specs.Crossing.{crosses_down, crosses_up}
use Rattle.split_model.specs.Laws.{IsExact, HasDeclaredTables}
use Rattle.split_model.specs.Layouts.{down_layout, up_layout}
use Rattle.split_model.specs.Passes.{down_verdict, is_fast, pre_values}
use Rattle.split_model.specs.Split.{is_carried}
use Rattle.transfer_header.specs.Frames.{IsFrame, IsFrameOf}
use Rattle.transfer_header.specs.Told.{reads_in}
use Rattle.transfer_header.specs.Values.{value_by, Agree}
use Rattle.writeback_table.specs.declared.command.Command.{Command}
use Rattle.split_answers.specs.Whole.{whole_of, IsSplit}
use Rattle.replay_state.specs.Journal.{UpAnswer, Finished, SentUp, GoingUp, is_up_end}
use Rattle.replay_state.specs.Tied.{IsRight}
use Rattle.switch_ir.specs.declared.port.DownEnd.TheVariants as down
use Rattle.switch_ir.specs.Emitted.{emitted}
use Rattle.switch_ir.specs.Meaning.{down_end, goes_up, leaves, up_values, up_verdict}
use Rattle.switch_ir.specs.Port.{EndsDown, EndsUp}
use Rattle.switch_ir.specs.Tables.{Told, seen_tables}
use Rattle.split_answers.specs.Through.{IsThrough, end_of}
use Rattle.split_answers.specs.UnderWay.{AreShown}
use Rattle.split_answers.proofs.Seen.{has_replicated, is_loaded}
use Rattle.split_answers.proofs.Wholes.{loaded}
use Rattle.split_model.proofs.Crossings.{carried_up}
use Rattle.split_model.proofs.Laws.{carried_values_stand, kept_stores_have_tables, postprocessing_reads_constant_tables, preprocessing_is_exact, replicated_objects_show}
use Rattle.switch_ir.proofs.Laws.{what_is_emitted_computes_the_split}
use Rattle.transfer_header.proofs.Laws.{frames_are_told_by_place-down, frames_are_told_by_place-parts, frames_of_equal_values}
use Rattle.transfer_header.proofs.Numbers.{to_all}

-- ## Up

one_of : (fast : Bool) (all verdict : Verdict) → (if fast then Some all else None) ≡ Some verdict → (fast ≡ true) × (verdict ≡ all)
one_of true all verdict e = (refl, cc)
one_of false all verdict e = cc

none_of : (fast : Bool) (all : Verdict) → (if fast then Some all else None) ≡ None → fast ≡ false
none_of true all e = cc
none_of false all e = refl

module _ (f : Program) (split : List Part) (writeback : ℕ) (st : Store) (commands : List Command) (told : Told) (number : ℕ) (packet : Packet)
    (is : IsSplit f split writeback) (kept : IsKept f.objects st) (through : IsThrough (emitted f split writeback) commands told)
    (seen : AreShown f split writeback commands st) where
  abbrev tables : Store
  tables = seen_tables told

  has_tables : HasConstantTables f st
  has_tables = kept_stores_have_tables f st kept

  ready : HasDeclaredTables f split tables
  ready = is_loaded f split writeback is commands told through

  exact : IsExact f split st tables packet
  exact =
      preprocessing_is_exact f split st tables packet is.bounded.formed is.legal
      (replicated_objects_show f split st tables has_tables ready (has_replicated f split writeback is commands told through st seen kept))

  -- what the code finishes is what is fast
  verdict_is : up_verdict (emitted f split writeback) tables packet ≡ (if is_fast f split st packet then Some (flat_verdict f st packet) else None)
  verdict_is = (what_is_emitted_computes_the_split f split writeback is.legal).finished tables packet ∙ exact.verdict

  -- the values that go up hang on the packet alone
  carried_is : (v : ValueId) → crosses_up f split v ≡ true → up_values (emitted f split writeback) tables packet v ≡ pre_values f split (start_store f.objects) packet v
  carried_is v e =
      let start : Store = start_store f.objects in
      let carried : is_carried split v.instruction ≡ true = carried_up f split v e in
      (what_is_emitted_computes_the_split f split writeback is.legal).up tables packet v
      ∙ carried_values_stand f split st tables packet is.bounded.formed is.legal has_tables ready v carried
      ∙ sym (carried_values_stand f split st start packet is.bounded.formed is.legal has_tables
      (loaded f split start (kept_stores_have_tables f start is.kept)) v carried)

  pub passes_up : (answer : UpAnswer) → EndsUp (emitted f split writeback) told number packet (end_of answer) → is_up_end answer ≡ true → IsRight (whole_of f split writeback) st number packet (Some answer)
  passes_up (Finished verdict) own ended = one_of (is_fast f split st packet) (flat_verdict f st packet) verdict (sym verdict_is ∙ own)
  passes_up (SentUp frame) own ended =
      let code = emitted f split writeback in
      let reads : Reading = up_values code tables packet in
      let none : up_verdict code tables packet ≡ None = cond-true (goes_up code reads) None (Some (leaves code.pre reads packet)) own.0 in (
        none_of (is_fast f split st packet) (flat_verdict f st packet) (sym verdict_is ∙ none),
        own.1 ∙ frames_of_equal_values 1 (up_layout f split) number packet.port (value_by reads)
            (value_by (pre_values f split (start_store f.objects) packet)) packet.bytes
            (to_all f (crosses_up f split) (λ (c : Crossing). value_by reads c ≡ value_by (pre_values f split (start_store f.objects) packet) c) carried_is),
      )
  passes_up GoingUp own ended = cc

-- ## Down

module _ (f : Program) (split : List Part) (writeback : ℕ) (commands : List Command) (told : Told) (frame : List ℕ)
    (is : IsSplit f split writeback) (through : IsThrough (emitted f split writeback) commands told) (framed : IsFrame 2 (down_layout f split) frame) where
  abbrev pub layout : List Crossing
  layout = down_layout f split

  abbrev pub reads : Reading
  reads = reads_in layout frame

  -- the frame is that of the numbers that stand in it by place
  pub own_frame : IsFrameOf 2 layout framed.number framed.port (value_by reads) framed.packet frame
  own_frame =
      let by_place = frames_are_told_by_place-down f split 2 framed.number framed.port framed.values framed.packet frame framed.is in
      let same : Agree layout framed.values (value_by reads) =
      to_all f (crosses_down f split) (λ (c : Crossing). framed.values c ≡ value_by reads c) (λ v e. sym (by_place.numbers v e)) in
      record {
        bytes = framed.is.bytes ∙ frames_of_equal_values 2 layout framed.number framed.port framed.values (value_by reads) framed.packet same;
        four_bytes = framed.is.four_bytes;
        one_byte = framed.is.one_byte;
        narrow = to_all f (crosses_down f split) (λ (c : Crossing). value_by reads c < 2 ^ c.width) by_place.narrow;
        short = framed.is.short;
      }

  abbrev pub arrived : Packet
  arrived = record { port = framed.port; bytes = framed.packet }

  -- a verdict is right that is the code's of these numbers
  pub verdict_down : (verdict : Verdict) → verdict ≡ down_end (emitted f split writeback) (value_by reads) (seen_tables told) arrived → verdict ≡ (whole_of f split writeback).post frame
  verdict_down verdict own =
      let start : Store = start_store f.objects in
      own
      ∙ (what_is_emitted_computes_the_split f split writeback is.legal).verdict reads (seen_tables told) arrived
      ∙ (postprocessing_reads_constant_tables f split start (seen_tables told) arrived reads is.legal
      (loaded f split start (kept_stores_have_tables f start is.kept)) (is_loaded f split writeback is commands told through)).verdict
      ∙ sym (ap (down_verdict f split reads start) (frames_are_told_by_place-parts 2 layout framed.number framed.port framed.values framed.packet frame framed.is).carries)

  pub passes_down : (verdict : Verdict) → EndsDown (emitted f split writeback) told frame (down.Verdict verdict) → verdict ≡ (whole_of f split writeback).post frame
  passes_down verdict ends = verdict_down verdict (ends framed.number framed.port (value_by reads) framed.packet own_frame)
