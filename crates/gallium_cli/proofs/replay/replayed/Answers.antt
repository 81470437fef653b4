use Rattle.std.proofs.lemmas.List.Elements.{recursion_from_All}
use Rattle.element_lang.specs.View.{tree}
use Rattle.flat_ir.specs.Arrivals.{IsArrival}
use Rattle.flat_ir.specs.Program.{program_of}
use Rattle.gallium_cli.proofs.Reported.{source_replayed}
use Rattle.gallium_cli.proofs.Written.{broken_on}
use Rattle.gallium_cli.proofs.replay.replayed.Goals as goal

pub returns-in-Ok-clause-ok : goal.returns-in-Ok-clause-ok
returns-in-Ok-clause-ok g c =
    let asked = c.requires.runnable in
    let arrive = recursion_from_All IsArrival c.args.packets c.as_slice.ensures.arrivals in
    source_replayed (tree c.args.split_middlebox.program.middlebox) (program_of c.args.split_middlebox.program.flat)
    c.args.split_middlebox.split c.args.split_middlebox.writeback c.args.packets c.args.plan c.in-Ok.replayed
    (g.S.SwitchPort.seen c.args.port.now) (g.S.SwitchPort.seen c.replay.new.port)
    asked.good arrive asked.program c.in-Ok.ensures.answered c.in-Ok.ensures.told

pub returns-in-Err-PortFault-clause-broken : goal.returns-in-Err-PortFault-clause-broken
returns-in-Err-PortFault-clause-broken g c = λ failed.
    broken_on (tree c.args.split_middlebox.program.middlebox) (program_of c.args.split_middlebox.program.flat)
    c.args.split_middlebox.split c.args.split_middlebox.writeback c.args.packets c.args.plan.fine c.in-Err-PortFault.field-0
    (g.S.SwitchPort.seen c.args.port.now) (g.S.SwitchPort.seen c.replay.new.port) c.requires.runnable.program
    c.in-Err-PortFault.field-0-is c.in-Err-PortFault.ensures.fails
