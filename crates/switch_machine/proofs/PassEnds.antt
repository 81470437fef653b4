-- What goes up in registers, and what becomes of packets at both sides, once their passes are computed.
use Rattle.std.proofs.Common.{◌≡◌, ◌==◌, ◌&&◌, ℕ, true, List, [], Some, None, if◌then◌else◌, sym, ap, ◌∙◌, subst, ◌≢◌, ◌++◌, Bool, false, refl, arith}
use Rattle.std.specs.List.{list_any, AllByRecursion as Each}
use Rattle.std.proofs.lemmas.Bool.{and_parts, eqb-true, le-ltb, lt-ltb, true≢false}
use Rattle.packet_fields.specs.declared.packet.Packet.{Packet}
use Rattle.flat_ir.specs.declared.spans.Span.{Span}
use Rattle.flat_ir.specs.Blocks.{Reading, is_live}
use Rattle.flat_ir.specs.Spans.{covers}
use Rattle.split_model.specs.declared.layout.Crossing.{Crossing}
use Rattle.split_model.specs.Crossing.{is_value}
use Rattle.transfer_header.specs.Registers.{Registers, content_of, Holds}
use Rattle.switch_ir.specs.declared.port.UpEnd.{UpEnd}
use Rattle.switch_ir.specs.declared.port.UpEnd.TheVariants.{Finished}
use Rattle.switch_ir.specs.Meaning.{leaves, up_values, pass_values}
use Rattle.switch_ir.specs.Port.{EndsUp}
use Rattle.switch_ir.specs.Sound.{CanBeRun}
use Rattle.switch_ir.specs.Spans.{last_read, pre_spans, span_of, written_in, Written}
use Rattle.switch_ir.specs.Tables.{Told, seen_tables}
use Rattle.switch_ir.specs.Staged.{EndsBy}
use Rattle.switch_machine.specs.declared.numbering.ValueRange.{ValueRange}
use Rattle.switch_machine.specs.declared.sides.Side.TheVariants.{Before, Behind}
use Rattle.switch_machine.specs.Keeping.{values_in, kept, left_with, lines_of}
use Rattle.switch_machine.specs.Numbers.{content_at, number_in, reads_by, AreHeld}
use Rattle.switch_machine.specs.Ranges.{AreOrdered}
use Rattle.switch_machine.specs.Sides.{staging, of_side, EndsOn, IsOf}
use Rattle.switch_machine.proofs.Members.{any_has, each_has, has_each, has_made, made_has, to_contains, Has}
use Rattle.switch_machine.proofs.PassValues.{has_its_number, IsRanged}
use Rattle.flat_ir.proofs.Exact.{value_same}
use Rattle.lemmas.proofs.Lists.{each_or}
use Rattle.std.specs.Prelude.{nat_lt, not}
use Rattle.packet_fields.specs.declared.verdict.Verdict.{Verdict as Verdicts}
use Rattle.flat_ir.specs.declared.program.Out.{Out}
use Rattle.flat_ir.specs.Run.{sent}
use Rattle.flat_ir.specs.Writable.{IsWritable}
use Rattle.transfer_header.specs.Frames.{up_frame}
use Rattle.switch_ir.specs.declared.code.SwitchCode.{SwitchCode}
use Rattle.switch_ir.specs.Code.{code_of, Code}
use Rattle.switch_ir.specs.UnderWay.{Passes}
use Rattle.switch_ir.specs.declared.port.UpEnd.TheVariants as up
use Rattle.switch_machine.specs.declared.sides.Side.{Side}
use Rattle.switch_machine.specs.UnderWay.{leaves_on, Enters, HasEnd}
use Rattle.switch_machine.proofs.SettingUp.{alike_left, alike_right, sent_same, tested_same}

module _ (code : Code) (can : CanBeRun code) (ordered : AreOrdered code) (ranges : List ValueRange) (ranged : IsRanged (staging Before code) ranges) where
  abbrev had : List Written
  had = written_in code.tables [] code.pre

  span_made : (c : Crossing) (s : Span) → Has (pre_spans code) s → s.value ≡ c.number → Has code.up c → number_in ranges c.value ≡ Some c.number
  span_made c s there is h =
      let m = has_made (span_of (last_read code.up code.pre)) had s there in
      let number : m.from.number ≡ c.number = ap (λ (x : Span). x.value) m.is ∙ is in
      let alike = each_has (λ (w : Written). w.number ≡ c.number → is_value w.value c.value ≡ true) had
      (each_has (λ (x : Crossing). Each (λ (w : Written). w.number ≡ x.number → is_value w.value x.value ≡ true) had) code.up ordered.up c h) m.from m.there number in
      ap (number_in ranges) (sym (value_same m.from.value c.value alike))
      ∙ has_its_number (staging Before code) ranges ranged m.from m.there
      ∙ ap (λ n. Some n) number

  -- what goes up is had under its number
  up_number : (c : Crossing) → Has code.up c → number_in ranges c.value ≡ Some c.number
  up_number c h =
      let place = to_contains code.up c h in
      let p = any_has (λ (s : Span). s.value == c.number && covers code.pre.highest s) (pre_spans code)
      (subst (λ (x : Crossing). list_any (λ (s : Span). s.value == x.number && covers code.pre.highest s) (pre_spans code) ≡ true) place.2 (can.up_needed place.0 c place.1)) in
      let parts = and_parts (p.one.value == c.number) (covers code.pre.highest p.one) p.is in
      span_made c p.one p.there (eqb-true p.one.value c.number parts.0) h

  -- the registers hold what goes up
  pub up_holds : (registers : Registers) (reads : Reading) → Each (λ v. reads_by ranges (content_of registers) v ≡ reads v) (values_in code.up)
      → Holds code.up registers reads
  up_holds registers reads same k d lt =
      each_or (λ (c : Crossing). content_of registers c.number ≡ reads c.value) code.up k d
      (has_each (λ (c : Crossing). content_of registers c.number ≡ reads c.value) code.up
      (λ c h. sym (ap (content_at (content_of registers)) (up_number c h))
      ∙ each_has (λ v. reads_by ranges (content_of registers) v ≡ reads v) (values_in code.up) same c.value (made_has (λ (x : Crossing). x.value) code.up c h)))
      lt

-- what becomes of a packet by the values of preprocessing is what becomes of it over the tables
pub ends_up : (code : Code) (told : Told) (number : ℕ) (packet : Packet) (end : UpEnd)
    → EndsBy code (up_values code (seen_tables told) packet) number packet end → EndsUp code told number packet end
ends_up code told number packet (Finished verdict) h =
    let reads = up_values code (seen_tables told) packet in
    ap (λ b. if b then None else Some (leaves code.pre reads packet)) h.0 ∙ ap (λ v. Some v) (sym h.1)
ends_up code told number packet end h = h

-- only before the server work is left, and packets go up
pub before_of : (side : Side) (code : Code) (reads : Reading) → leaves_on side code reads ≡ true → side ≡ Before
before_of Before code reads left = refl
before_of Behind code reads left = absurd (true≢false (sym left))

pub is_of : (side : Side) (end : UpEnd) → IsOf Behind end → IsOf side end
is_of Before end of = tt
is_of Behind end of = of

pub going_ends : (side : Side) (code : Code) (reads : Reading) (number : ℕ) (packet : Packet) → EndsOn side code reads number packet up.Going
going_ends Before code reads number packet = tt
going_ends Behind code reads number packet = tt

-- what decides on a packet
pub writable_on : (side : Side) (c : SwitchCode) (out : Out) → out ≡ of_side side c.pre.out c.post.out → CanBeRun (code_of c) → Each IsWritable out.fields.items
writable_on Before c out is can = subst (λ (o : Out). Each IsWritable o.fields.items) (sym is) can.pre_fields
writable_on Behind c out is can = subst (λ (o : Out). Each IsWritable o.fields.items) (sym is) can.post_fields

pub sent_on : (side : Side) (c : SwitchCode) (out : Out) → out ≡ of_side side c.pre.out c.post.out → (reads : Reading) (packet : Packet)
    → sent out.send out.port out.fields.items reads packet ≡ leaves (staging side (code_of c)).code reads packet
sent_on Before c out is reads packet = ap (λ (o : Out). sent o.send o.port o.fields.items reads packet) is
sent_on Behind c out is reads packet = ap (λ (o : Out). sent o.send o.port o.fields.items reads packet) is

module _ (code : Code) (ranges : List ValueRange) (registers : Registers) where
  abbrev now : Reading
  now = reads_by ranges (content_of registers)

  tested : (reads : Reading) → AreHeld ranges registers reads (kept (staging Before code))
      → list_any (is_live code.pre.blocks now) code.pre.rest ≡ list_any (is_live code.pre.blocks reads) code.pre.rest
  tested reads same =
      let lines = lines_of code.pre.blocks code.pre.rest in
      tested_same now reads code.pre.blocks code.pre.rest
      (alike_left now reads lines (left_with code.pre) (alike_right now reads (values_in code.up) (lines ++ left_with code.pre) same))

  pub ends_up_on : (side : Side) → CanBeRun code → AreOrdered code → IsRanged (staging side code) ranges → leaves_on side code now ≡ true → (number : ℕ) (packet : Packet) (frame : List ℕ)
      → ((reads : Reading) → Holds code.up registers reads → frame ≡ up_frame code.up number packet.port reads packet.bytes)
      → (reads : Reading) → AreHeld ranges registers reads (kept (staging side code)) → EndsOn side code reads number packet (up.Up frame)
  ends_up_on Behind can ordered ranged left number packet frame packed reads same = absurd (true≢false (sym left))
  ends_up_on Before can ordered ranged left number packet frame packed reads same = (
    sym (tested reads same) ∙ left,
    packed reads (up_holds code can ordered ranges ranged registers reads
        (alike_left now reads (values_in code.up) (lines_of code.pre.blocks code.pre.rest ++ left_with code.pre) same)),
  )

  pub ends_on : (side : Side) → leaves_on side code now ≡ false → (number : ℕ) (packet : Packet) (verdict : Verdicts)
      → verdict ≡ leaves (staging side code).code now packet
      → (reads : Reading) → AreHeld ranges registers reads (kept (staging side code)) → EndsOn side code reads number packet (up.Finished verdict)
  ends_on Before left number packet verdict is reads same =
      let lines = lines_of code.pre.blocks code.pre.rest in (
        sym (tested reads same) ∙ left,
        is ∙ sent_same now reads code.pre packet
            (alike_right now reads lines (left_with code.pre) (alike_right now reads (values_in code.up) (lines ++ left_with code.pre) same)),
      )
  ends_on Behind left number packet verdict is reads same =
      let lines = lines_of code.post.blocks code.post.rest in
      is ∙ sent_same now reads code.post packet (alike_right now reads lines (left_with code.post) same)

-- ## Whether it has stages left

pub none_left : (whole : Bool) (highest : ℕ) → (whole ≡ false → highest ≡ 0) → (not whole && nat_lt 0 highest) ≡ false
none_left true highest one = refl
none_left false highest one = le-ltb 0 highest (omega (arith, one refl))

pub some_left : (whole : Bool) (highest : ℕ) → whole ≡ false → highest ≢ 0 → (not whole && nat_lt 0 highest) ≡ true
some_left true highest e several = absurd (true≢false e)
some_left false highest e several = lt-ltb 0 highest (omega (arith, several))

-- a pass that is computed to its end begins with no stages left
pub at_end : (side : Side) (code : Code) (told : Told) (whole : Bool) (number : ℕ) (packet : Packet) (given : Reading) (end : UpEnd) (old new : Passes)
    → HasEnd side code number packet false (EndsOn side code (pass_values (staging side code).code given (seen_tables told) packet) number packet) end
    → new ≡ old → (not whole && nat_lt 0 (staging side code).code.highest) ≡ false → Enters side code told whole number packet given end old new
at_end side code told whole number packet given up.Going old new h same none = absurd (true≢false (sym h.goes))
at_end side code told whole number packet given end old new h same none =
    record { begun = same; ends = record { goes = none; of = h.of; frame = h.frame; told = h.told } }
