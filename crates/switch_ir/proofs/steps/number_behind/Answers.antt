use Rattle.std.proofs.Common.{ap, ◌∙◌}
use Rattle.flat_ir.specs.Program.{program_of, result_count, step_at}
use Rattle.switch_ir.proofs.Places.{work_is, values_more}
use Rattle.switch_ir.proofs.steps.number_behind.Goals as goal

pub returns-clause-numbered : goal.returns-clause-numbered
returns-clause-numbered c =
    let f = c.args.f.now in
    let here = work_is f c.as_slice.result.now c.args.i c.index-as_slice-i.result c.as_slice.ensures c.requires.within c.index-as_slice-i.is in
    values_more (program_of f) c.args.i c.args.number c.result_count.result c.requires.numbered
    (c.result_count.ensures.value ∙ ap (result_count c.as_slice-2.result.now) here
    ∙ ap (λ objects. result_count objects (step_at (program_of f) c.args.i).work) c.as_slice-2.ensures)
