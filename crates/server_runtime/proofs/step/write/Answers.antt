use Rattle.std.proofs.Common.{◌<◌, ◌≤◌, ◌∷◌, [], length, sym, ap, ◌∙◌, subst, arith, IsTrue}
use Rattle.flat_ir.specs.Fits.{fits}
use Rattle.flat_ir.specs.Kinds.{is_look}
use Rattle.flat_ir.specs.Program.{program_of, step_of, Step}
use Rattle.flat_ir.specs.Registers.{packet_of}
use Rattle.transfer_header.specs.Ready.{placed_gives, places_of}
use Rattle.server_runtime.proofs.ByPlaces.{row_placed, still_places, write_is_no_look}
use Rattle.server_runtime.proofs.Steps.{code_length}
use Rattle.server_runtime.proofs.StepTaken.{number_turned, room_for}
use Rattle.flat_ir.proofs.Steps.{step_is}
use Rattle.server_runtime.proofs.step.write.Goals as goal

pub compute_number-number-requires : goal.compute_number-number-requires
compute_number-number-requires c =
    let flat = c.args.whole.now.flat in
    let f = program_of flat in
    let step = c.args.step.now in
    let formed = c.requires.at.prepared.bounded.formed in
    let here = step_is flat step.instruction c.index-as_slice-instruction.result c.as_slice.result.now c.as_slice.ensures c.requires.at.within c.index-as_slice-instruction.is in
    let lt : step.instruction < length f.code = omega (arith, c.requires.at.within, code_length flat) in
    record {
      number = ap (λ (s : Step). is_look s.work) here ∙ write_is_no_look f c.args.values.now step c.requires.resolved c.requires.write;
      fits = subst (λ (s : Step). IsTrue (fits f s.work)) (sym here) (formed.fit step.instruction lt);
      parents = formed.parents;
      block_in_range = subst (λ (s : Step). s.block ≤ length flat.blocks) (sym here) (formed.blocks step.instruction lt);
      size = c.requires.at.size;
      shape = c.requires.at.shape;
    }

pub tell-requires : goal.tell-requires
tell-requires c =
    let flat = c.args.whole.now.flat in
    let f = program_of flat in
    let i = c.args.step.now.instruction in
    let instr = c.index-as_slice-instruction.result in
    let here = step_is flat i instr c.as_slice.result.now c.as_slice.ensures c.requires.at.within c.index-as_slice-instruction.is in
    record {
      prepared = c.requires.at.prepared;
      fits = subst (λ (s : Step). IsTrue (fits f s.work)) (sym here)
          (c.requires.at.prepared.bounded.formed.fit i (omega (arith, c.requires.at.within, code_length flat)));
      room = omega (
        arith,
        c.requires.room,
        ap length (room_for f c.args.whole.now.split (packet_of c.args.arrival.now) i c.args.values.now c.args.store.now
            (step_of instr) c.compute_number-number.result here c.compute_number-number.ensures.number),
      );
    }

pub returns-clause-taken : goal.returns-clause-taken
returns-clause-taken c =
    let whole = c.args.whole.now in
    let f = program_of whole.flat in
    let step = c.args.step.now in
    let i = step.instruction in
    let number = c.compute_number-number.result in
    let instr = c.index-as_slice-instruction.result in
    let here = step_is whole.flat i instr c.as_slice.result.now c.as_slice.ensures c.requires.at.within c.index-as_slice-instruction.is in
    number_turned f whole.split (packet_of c.args.arrival.now) i c.args.values.now c.args.store.now
    (step_of instr) number c.put_number.new.registers c.compute_number-number.new.store c.args.updates.now.items c.tell.new.updates.items
    here c.compute_number-number.ensures.number c.compute_number-number.ensures.after
    (c.put_number.ensures ∙ row_placed f i c.args.values.now (omega (arith, c.requires.at.within, code_length whole.flat)) c.requires.has (places_of step.ready.places) (number ∷ []) c.requires.resolved.places)
    c.tell.ensures.told

pub returns-clause-places : goal.returns-clause-places
returns-clause-places c =
    still_places c.args.values.now c.put_number.new.registers
    (placed_gives (places_of c.args.step.now.ready.places) (c.compute_number-number.result ∷ [])) c.put_number.ensures
