use Rattle.std.proofs.Common.{◌∙◌, ◌<◌, ◌&&◌, ap, sym, arith, length}
use Rattle.std.proofs.lemmas.List.{length-map}
use Rattle.flat_ir.specs.declared.program.Instr.{Instr}
use Rattle.flat_ir.specs.Program.{Step, program_of, step_of, step_at}
use Rattle.split_model.specs.Split.{is_pre}
use Rattle.split_model.specs.Shown.{looks_at}
use Rattle.std.proofs.lemmas.Bool.{and_from}
use Rattle.split_model.proofs.Steps.{step_is}
use Rattle.flat_ir.proofs.AnyBelow.{any_passes}
use Rattle.split_model.proofs.shown.is_shown.Goals as goal

pub returns-then-looks_at : goal.returns-then-looks_at
returns-then-looks_at c =
    let f = c.args.f.now in
    let within : c.loop-i.i < length f.code = omega (arith, c.len-i-end.ensures) in
    let there : c.loop-i.i < length c.as_slice.result.now = omega (arith, ap length c.as_slice.ensures) in
    let at = step_is f c.as_slice.result.now c.loop-i.i c.index-as_slice-i.result c.as_slice.ensures there c.index-as_slice-i.is in
    let looks = ap (λ (s : Step). looks_at c.args.object s.work) at
    ∙ ap (λ (one : Instr). looks_at c.args.object (step_of one).work) c.index-as_slice-i.is ∙ sym c.looks_at.ensures ∙ c.if-looks_at.true in
    let pre = sym c.is_pre.ensures ∙ c.if-is_pre.true in
    sym (any_passes (length (program_of f).code) (λ i. is_pre c.args.s.now i && looks_at c.args.object (step_at (program_of f) i).work) c.loop-i.i
    (omega (arith, length-map f.code step_of)) (and_from _ _ pre looks))
