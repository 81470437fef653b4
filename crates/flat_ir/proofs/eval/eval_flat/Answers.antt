use Rattle.std.proofs.Common.{length, drop, sym, ap, subst, ◌∙◌, arith}
use Rattle.std.proofs.lemmas.List.{length-map}
use Rattle.packet_fields.specs.declared.packet.Packet.{Packet}
use Rattle.state_store.specs.Kept.{IsKept}
use Rattle.packet_fields.specs.Arrivals.{IsArrival}
use Rattle.flat_ir.specs.Program.{program_of, step_of}
use Rattle.flat_ir.specs.Run.{after, verdict}
use Rattle.flat_ir.specs.Registers.{reads_of}
use Rattle.flat_ir.proofs.KeptRuns.{keeps_widths, writable}
use Rattle.flat_ir.proofs.Steps.{front, verdict_same}
use Rattle.flat_ir.proofs.eval.eval_flat.Goals as goal

pub leave-requires-clause-writable : goal.leave-requires-clause-writable
leave-requires-clause-writable c = writable (program_of c.args.f.now) c.args.f.now.out.fields.items c.requires.well.fields

pub returns-clause-verdict : goal.returns-clause-verdict
returns-clause-verdict c =
    let f = program_of c.args.f.now in
    let packet : Packet = record { port = c.args.port; bytes = c.args.packet.now } in
    let count = length-map c.args.f.now.code step_of in
    c.leave.ensures
    ∙ verdict_same f packet (reads_of c.deref.result.now) (after f c.args.store.now packet (length c.args.f.now.code)).reads (λ v. ap (λ l. reads_of l v) (c.deref.ensures.value ∙ front c.in_ok-rows.rows.len c.take_turns.new.rows (drop (length c.take_turns.new.rows) c.in_ok-rows.rows.items) (omega (arith, c.take_turns.auto.rows, c.deref_mut.ensures.len))) ∙ c.take_turns.ensures.values v)
    ∙ ap (λ n. verdict f packet (after f c.args.store.now packet n).reads) (sym count)

pub returns-clause-kept : goal.returns-clause-kept
returns-clause-kept c =
    let f = program_of c.args.f.now in
    let packet : Packet = record { port = c.args.port; bytes = c.args.packet.now } in
    let arrives : IsArrival packet = record { port = c.ranges.port.fits; bytes = λ i. omega (arith, c.type_inv.packet i); size = c.requires.size } in
    let count = length-map c.args.f.now.code step_of in
    let so = keeps_widths f c.args.store.now packet (length c.args.f.now.code) c.requires.well arrives c.requires.kept (omega (arith, count)) in
    subst (IsKept c.args.f.now.objects) (sym c.take_turns.ensures.store) so.kept
