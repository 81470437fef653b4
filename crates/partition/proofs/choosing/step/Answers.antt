use Rattle.std.proofs.Common.{◌∙◌, sym}
use Rattle.flat_ir.specs.Program.{program_of}
use Rattle.partition.proofs.Steps.{skipped}
use Rattle.partition.proofs.choosing.step.Goals as goal

pub returns-else-has_last : goal.returns-else-has_last
returns-else-has_last c =
    skipped (program_of c.args.f.now) c.args.limits.now c.args.front.now c.requires.bounded.formed c.requires.front c.requires.nonempty
    (sym c.has_last.ensures ∙ c.if-has_last.false)
