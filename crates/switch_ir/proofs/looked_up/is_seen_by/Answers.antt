use Rattle.std.proofs.Common.{◌≡◌, ◌<◌, true, ap, sym, ◌∙◌, ◌&&◌, arith, length}
use Rattle.std.specs.Prelude.{is_some}
use Rattle.std.proofs.lemmas.Bool.{and_from}
use Rattle.std.proofs.lemmas.List.{length-map}
use Rattle.flat_ir.specs.Program.{program_of, step_at, step_of}
use Rattle.split_model.specs.Shown.{looks_at}
use Rattle.switch_ir.specs.Emitting.{stage_in}
use Rattle.switch_ir.proofs.Places.{work_is, any_at}
use Rattle.switch_ir.proofs.looked_up.is_seen_by.Goals as goal

pub returns-then-looks_at : goal.returns-then-looks_at
returns-then-looks_at c =
    let f = c.args.f.now in
    let i = c.loop-i.i in
    let stages = stage_in c.args.role c.args.s.now in
    let within : i < length f.code = omega arith in
    let here = work_is f c.as_slice.result.now i c.index-as_slice-i.result c.as_slice.ensures within c.index-as_slice-i.is in
    let staged : is_some (stages i) ≡ true = sym (ap is_some c.stage.ensures) ∙ sym c.is_some.ensures ∙ c.if-is_some.true in
    let looks : looks_at c.args.object (step_at (program_of f) i).work ≡ true =
    sym (ap (looks_at c.args.object) here) ∙ sym c.looks_at.ensures ∙ c.if-looks_at.true in
    sym (any_at (length (program_of f).code) i (λ j. is_some (stages j) && looks_at c.args.object (step_at (program_of f) j).work)
    (omega (arith, within, length-map f.code step_of)) (and_from (is_some (stages i)) (looks_at c.args.object (step_at (program_of f) i).work) staged looks))
