use Rattle.std.proofs.Common.{◌<◌, ◌∙◌, ◌||◌, ap, sym, arith, length}
use Rattle.flat_ir.specs.declared.program.Instr.{Instr}
use Rattle.flat_ir.specs.Program.{Step, step_of, operands}
use Rattle.split_model.specs.Crossing.{is_among}
use Rattle.split_model.proofs.AnyBelow.{with_true}
use Rattle.split_model.proofs.ValueMarks.{same_test}
use Rattle.split_model.proofs.Steps.{step_is}
use Rattle.split_model.proofs.readers.mark_operands.Goals as goal

pub returns-then-has : goal.returns-then-has
returns-then-has c =
    let code = c.as_slice.result.now in
    let within : c.args.i < length code = omega (arith, ap length c.as_slice.ensures) in
    let one = c.index-as_slice-i.result in
    let at = ap (λ (one : Instr). step_of one) (sym c.index-as_slice-i.is) ∙ sym (step_is c.args.f.now code c.args.i one c.as_slice.ensures within c.index-as_slice-i.is) in
    let has = sym c.has.ensures ∙ c.if-has.true in
    λ n test h. same_test n _ _ _ (λ v. ap (λ b. test v || b) (ap (λ (s : Step). is_among v (operands s.work)) at ∙ with_true _ _ has)) (c.insert_operands.ensures n test h)
