use Rattle.std.proofs.Common.{◌≡◌, ◌∙◌, ◌+◌, [], refl, sym, ap, arith, length, subst, replicate, ◌<◌, get_or}
use Rattle.flat_ir.specs.declared.program.Instr.{Instr}
use Rattle.flat_ir.specs.Program.{program_of, step_of, step_at, work_of, operands, Step}
use Rattle.dependence.specs.Noted.{noted_all, AreUsesSoFar}
use Rattle.dependence.proofs.PlacedCode.{as_many, here, step_there}
use Rattle.dependence.proofs.UserLists.{no_users, more_users, all_users}
use Rattle.dependence.proofs.uses.Uses.of.Goals as goal

pub loop-i-init : goal.loop-i-init
loop-i-init c =
    let n = as_many c.args.f.now c.args.f.now.code refl in
    let unused : c.in_ok-uses.uses ≡ replicate (length (program_of c.args.f.now).code) [] = c.in_ok-uses.ensures ∙ ap (λ m. replicate m []) (c.len.ensures ∙ n) in
    rw unused (no_users (program_of c.args.f.now))

pub loop-i-preserved : goal.loop-i-preserved
loop-i-preserved c =
    let f = program_of c.args.f.now in
    let within = subst (λ l. c.loop-i.i < length l) (sym c.as_slice.ensures) (omega arith) in
    let at = here c.args.f.now c.as_slice.result.now c.loop-i.i c.index-as_slice-i.result c.as_slice.ensures within c.index-as_slice-i.is in
    let one = get_or c.as_slice.result.now c.loop-i.i c.index-as_slice-i.result in
    let work : (step_at f c.loop-i.i).work ≡ work_of one.kind =
    ap (λ (s : Step). s.work) (step_there f c.loop-i.i (step_of c.index-as_slice-i.result) at) ∙ ap (λ (o : Instr). work_of o.kind) c.index-as_slice-i.is in
    subst (AreUsesSoFar f (c.loop-i.i + 1)) (ap (λ w. noted_all c.loop-i.uses c.loop-i.i (operands w)) work ∙ sym c.in_ok-note_operands.ensures)
    (more_users f c.loop-i.i c.loop-i.uses c.loop-i.invariant)

pub returns : goal.returns
returns c =
    let n = as_many c.args.f.now c.args.f.now.code refl in
    let end : c.loop-i.i ≡ length (program_of c.args.f.now).code = omega (arith, n, c.loop-i-test.false, c.loop-i.auto.i-end) in
    all_users (program_of c.args.f.now) c.loop-i.i c.loop-i.uses end c.loop-i.invariant
