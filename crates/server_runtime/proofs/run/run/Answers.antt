use Rattle.std.proofs.Common.{refl, sym, ap, ◌∙◌, subst, arith}
use Rattle.flat_ir.specs.Program.{program_of}
use Rattle.flat_ir.specs.Registers.{packet_of}
use Rattle.transfer_header.specs.Frames.{down_frame, frame_of}
use Rattle.transfer_header.specs.Registers.{value_in, AllHaveRegisters, Holds}
use Rattle.transfer_header.specs.Values.{value_by}
use Rattle.server_runtime.specs.Registers.{handed}
use Rattle.server_runtime.specs.StepsTaken.{sent_by}
use Rattle.server_runtime.proofs.Begun.{begun_of}
use Rattle.server_runtime.proofs.Frames.{packet_last, packet_replaced, packet_within}
use Rattle.server_runtime.proofs.Laws.{a_server_run_has_an_outcome-fits, a_server_run_has_an_outcome-outcome}
use Rattle.server_runtime.proofs.run.run.Goals as goal

pub pack_down_in-frame-requires-clause-fits : goal.pack_down_in-frame-requires-clause-fits
pack_down_in-frame-requires-clause-fits c =
    let whole = c.args.whole.now in
    let f = program_of whole.flat in
    let packet = packet_of c.args.arrival.now in
    let up = handed f whole.split c.args.values.now in
    let registers = c.take_steps.new.values in
    let fits = a_server_run_has_an_outcome-fits f whole.split up c.args.store.now packet registers c.take_steps.new.store
    c.take_steps.new.updates.items (begun_of whole up c.args.store.now packet c.requires.prepared c.requires.kept c.requires.fit c.requires.arrives)
    c.take_steps.ensures.run in
    subst (λ l. AllHaveRegisters l registers) (sym c.requires.prepared.down) fits.among

pub set_fields-down-requires-clause-within : goal.set_fields-down-requires-clause-within
set_fields-down-requires-clause-within c =
    packet_within 2 c.args.whole.now.down c.args.number c.args.arrival.now.port (value_in c.take_steps.new.values) c.args.arrival.now.bytes.now
    c.pack_down_in-frame.result.items c.pack_down_in-frame.ensures.bytes

pub set_fields-down-requires-clause-last : goal.set_fields-down-requires-clause-last
set_fields-down-requires-clause-last c =
    packet_last 2 c.args.whole.now.down c.args.number c.args.arrival.now.port (value_in c.take_steps.new.values) c.args.arrival.now.bytes.now
    c.pack_down_in-frame.result.items c.pack_down_in-frame.ensures.bytes

pub returns-clause-outcome : goal.returns-clause-outcome
returns-clause-outcome c =
    let whole = c.args.whole.now in
    let f = program_of whole.flat in
    let packet = packet_of c.args.arrival.now in
    let up = handed f whole.split c.args.values.now in
    let number = c.args.number in
    let registers = c.take_steps.new.values in
    let sent = sent_by f whole.split registers packet.bytes in
    let frame = c.pack_down_in-frame.result.items in
    a_server_run_has_an_outcome-outcome f whole.split up c.args.store.now packet registers c.take_steps.new.store
    c.take_steps.new.updates.items number
    (record { number = number; down = c.set_fields-down.result; updates = c.from.result; evaluated = whole.evaluated })
    (begun_of whole up c.args.store.now packet c.requires.prepared c.requires.kept c.requires.fit c.requires.arrives)
    c.take_steps.ensures.run (omega (arith, c.ranges.number.fits)) refl c.from.ensures c.requires.prepared.evaluated
    (c.set_fields-down.ensures ∙ packet_replaced 2 whole.down number packet.port (value_in registers) packet.bytes frame c.pack_down_in-frame.ensures.bytes sent
    ∙ ap (λ l. frame_of 2 l number packet.port (value_in registers) sent) c.requires.prepared.down)
    (λ reads held. c.set_fields-down.ensures
    ∙ packet_replaced 2 whole.down number packet.port (value_by reads) packet.bytes frame
    (c.pack_down_in-frame.ensures.reading reads (subst (λ l. Holds l registers reads) (sym c.requires.prepared.down) held)) sent
    ∙ ap (λ l. down_frame l number packet.port reads sent) c.requires.prepared.down)

pub returns-clause-serving : goal.returns-clause-serving
returns-clause-serving c =
    let ready = c.take_steps.ensures.run.ready in
    record { apart = ready.apart; placed = ready.placed }
