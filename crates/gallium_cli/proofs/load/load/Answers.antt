use Rattle.gallium_cli.proofs.Files.{read_refused}
use Rattle.gallium_cli.proofs.load.load.Goals as goal

pub returns-in-Done-clause-err : goal.returns-in-Done-clause-err
returns-in-Done-clause-err g c =
    read_refused c.read-in-Done.result (g.T.Format.role c.args.format.now) c.deref.result.now c.read.new.into.items
    c.args.name.now c.size.result (g.F.Files.seen c.args.files.now) (g.F.Files.seen c.read.new.self)
    c.deref.ensures.value c.size.ensures c.in-Done.ensures.gives c.read-in-Done.ensures.err
