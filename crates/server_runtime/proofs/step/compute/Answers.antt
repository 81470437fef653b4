use Rattle.std.proofs.Common.{false, arith}
use Rattle.flat_ir.specs.Program.{program_of}
use Rattle.flat_ir.specs.Registers.{packet_of}
use Rattle.flat_ir.specs.Run.{results}
use Rattle.transfer_header.specs.Ready.{placed_gives, places_of, reads_at, ready_work}
use Rattle.server_runtime.proofs.ByPlaces.{computed_turn, still_places}
use Rattle.server_runtime.proofs.Steps.{code_length}
use Rattle.server_runtime.proofs.step.compute.Goals as goal

pub returns-clause-taken : goal.returns-clause-taken
returns-clause-taken c =
    let flat = c.args.whole.now.flat in
    λ split updates.
    computed_turn (program_of flat) split (packet_of c.args.arrival.now) c.args.values.now c.args.store.now c.args.step.now c.run.new.registers updates
    (omega (arith, c.requires.at.within, code_length flat)) c.requires.has c.requires.resolved c.requires.write c.run.ensures.bounded c.run.ensures.placed

pub returns-clause-places : goal.returns-clause-places
returns-clause-places c =
    let values = c.args.values.now in
    let step = c.args.step.now.ready in
    still_places values c.run.new.registers
    (placed_gives (places_of step.places) (results (reads_at values.numbers) false c.args.store.now (packet_of c.args.arrival.now) (ready_work step.kind)))
    c.run.ensures.placed
