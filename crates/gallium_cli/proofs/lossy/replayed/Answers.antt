use Rattle.std.proofs.Common.{false}
use Rattle.std.proofs.lemmas.List.Elements.{recursion_from_All}
use Rattle.element_lang.specs.View.{tree}
use Rattle.flat_ir.specs.Arrivals.{IsArrival}
use Rattle.flat_ir.specs.Program.{program_of}
use Rattle.gallium_cli.proofs.OverLinks.{source_over_links}
use Rattle.gallium_cli.proofs.Written.{broken_on}
use Rattle.gallium_cli.proofs.lossy.replayed.Goals as goal

pub returns-in-Ok-clause-ok : goal.returns-in-Ok-clause-ok
returns-in-Ok-clause-ok g c =
    let asked = c.requires.runnable in
    let arrive = recursion_from_All IsArrival c.args.packets c.as_slice.ensures.arrivals in
    source_over_links (tree c.args.split_middlebox.program.middlebox) (program_of c.args.split_middlebox.program.flat)
    c.args.split_middlebox.split c.args.split_middlebox.writeback c.args.packets c.args.events.now c.in-Ok.run'
    (g.S.SwitchPort.seen c.args.port.now) (g.S.SwitchPort.seen c.replay_lossy.new.port)
    asked.good arrive asked.program c.in-Ok.ensures.linked c.in-Ok.ensures.told

pub returns-in-Err-PortFault-clause-broken : goal.returns-in-Err-PortFault-clause-broken
returns-in-Err-PortFault-clause-broken g c = λ failed.
    broken_on (tree c.args.split_middlebox.program.middlebox) (program_of c.args.split_middlebox.program.flat)
    c.args.split_middlebox.split c.args.split_middlebox.writeback c.args.packets false c.in-Err-PortFault.field-0
    (g.S.SwitchPort.seen c.args.port.now) (g.S.SwitchPort.seen c.replay_lossy.new.port) c.requires.runnable.program
    c.in-Err-PortFault.field-0-is c.in-Err-PortFault.ensures.fails
