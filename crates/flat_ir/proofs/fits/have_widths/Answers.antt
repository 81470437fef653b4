use Rattle.std.proofs.Common.{sym, ◌∙◌}
use Rattle.std.proofs.lemmas.List.{length-map}
use Rattle.flat_ir.specs.Program.{program_of, width_of_value}
use Rattle.flat_ir.specs.Fits.{widths_of}
use Rattle.flat_ir.proofs.Fails.{other_length}
use Rattle.flat_ir.proofs.fits.have_widths.Goals as goal

pub returns-then-values-widths : goal.returns-then-values-widths
returns-then-values-widths c =
    let f = program_of c.args.f.now in
    sym (other_length (widths_of f c.args.values.now) c.args.widths.now (λ e. c.if-values-widths.true (sym (length-map c.args.values.now (width_of_value f)) ∙ e)))
