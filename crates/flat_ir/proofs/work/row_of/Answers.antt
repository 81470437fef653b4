use Rattle.std.proofs.Common.{sym, ap, ◌∙◌, get_or}
use Rattle.std.proofs.lemmas.List.{length-map}
use Rattle.flat_ir.specs.Program.{program_of, width_of_value}
use Rattle.flat_ir.specs.Fits.{widths_of}
use Rattle.flat_ir.proofs.FitParts.{values_count}
use Rattle.flat_ir.proofs.work.row_of.Goals as goal

pub prove-unreachable-requires : goal.prove-unreachable-requires
prove-unreachable-requires g c =
    let f = program_of c.args.f.now in
    let d = c.index-as_slice-object.result in
    c.if-prove.true
    (sym (length-map c.args.values.now (width_of_value f))
    ∙ values_count c.args.f.now.objects c.args.object d (widths_of f c.args.values.now) c.requires (c.index-as_slice-object.is ∙ ap (λ l. get_or l c.args.object d) c.as_slice.ensures)
    ∙ sym c.len.ensures.value)
