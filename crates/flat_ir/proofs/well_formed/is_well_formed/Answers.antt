use Rattle.std.proofs.Common.{sym, ◌∙◌}
use Rattle.flat_ir.specs.Program.{program_of}
use Rattle.flat_ir.proofs.Exact.{is_exact}
use Rattle.flat_ir.proofs.well_formed.is_well_formed.Goals as goal

pub returns : goal.returns
returns c =
    let exact = is_exact (program_of c.args.f.now) in
    (λ h. exact.0 (sym c.is_good.ensures ∙ h), λ well. c.is_good.ensures ∙ exact.1 well)
