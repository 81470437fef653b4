use Rattle.std.proofs.Common.{◌<◌, length, get_or, sym, ap, ◌∙◌, arith}
use Rattle.flat_ir.specs.declared.program.Instr.{Instr}
use Rattle.flat_ir.specs.Program.{Step, program_of, work_of}
use Rattle.split_validate.proofs.Instructions.{fifth_rule}
use Rattle.split_model.proofs.Steps.{step_is}
use Rattle.split_validate.proofs.rules.breaks_5.Goals as goal

pub returns-then-is_carried : goal.returns-then-is_carried
returns-then-is_carried c =
    let f = c.args.f.now in
    let there : c.args.i < length c.as_slice.result.now = omega (arith, ap length c.as_slice.ensures) in
    let one = get_or c.as_slice.result.now c.args.i c.index-as_slice-i.result in
    let at = step_is f c.as_slice.result.now c.args.i c.index-as_slice-i.result c.as_slice.ensures there c.index-as_slice-i.is in
    c.is_in.ensures
    ∙ fifth_rule (program_of f) c.args.s.now c.args.i (work_of one.kind) (ap (λ (s : Step). s.work) at ∙ ap (λ (i : Instr). work_of i.kind) c.index-as_slice-i.is) (sym c.is_carried.ensures ∙ c.if-is_carried.true)
