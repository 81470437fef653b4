use Rattle.std.proofs.Common.{refl}
use Rattle.state_store.specs.declared.store.Put.TheVariants.{Full, OutOfRange}
use Rattle.flat_ir.proofs.Writes.{put_refused}
use Rattle.flat_ir.proofs.work.put_row.Goals as goal

pub returns-in-Full-clause-after : goal.returns-in-Full-clause-after
returns-in-Full-clause-after c =
    put_refused c.args.store.now c.put.new.self c.args.object c.args.key.now c.args.row.now Full c.in-Full.ensures.answer refl c.put.ensures.after

pub returns-in-OutOfRange-clause-after : goal.returns-in-OutOfRange-clause-after
returns-in-OutOfRange-clause-after c =
    put_refused c.args.store.now c.put.new.self c.args.object c.args.key.now c.args.row.now OutOfRange c.in-OutOfRange.ensures.answer refl c.put.ensures.after
