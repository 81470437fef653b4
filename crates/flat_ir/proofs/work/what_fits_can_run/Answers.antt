use Rattle.flat_ir.specs.Program.{program_of, work_of}
use Rattle.flat_ir.proofs.FitParts.{can_run}
use Rattle.flat_ir.proofs.work.what_fits_can_run.Goals as goal

pub returns : goal.returns
returns c = can_run (program_of c.args.f.now) (work_of c.args.kind.now) c.requires c.has_few_keys.ensures
