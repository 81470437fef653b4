use Rattle.std.proofs.Common.{◌≡◌, IfOk, Some, subst}
use Rattle.switch_ir.specs.Code.{code_of}
use Rattle.switch_ir.specs.UnderWay.{PassState}
use Rattle.switch_machine.specs.declared.sides.Side.{Side}
use Rattle.switch_machine.specs.declared.sides.Side.TheVariants.{Before, Behind}
use Rattle.switch_machine.specs.UnderWay.{passes_on, Steps}
use Rattle.switch_machine.proofs.LoadedCode.{pass_is}
use Rattle.switch_machine.proofs.loaded.Loaded.next.Goals as goal

pub next-requires-clause-pass : goal.next-requires-clause-pass
next-requires-clause-pass c = pass_is Before c.args.self.now

pub returns-in-Before-clause-steps : goal.returns-in-Before-clause-steps
returns-in-Before-clause-steps c =
    let l = c.args.self.now in
    rw c.in-Before.is
    (subst (λ (s : Side). (before : PassState) → passes_on Before l c.args.number ≡ Some before
    → IfOk c.next.result (Steps s (code_of l.code) c.args.tables.now c.args.number before))
    l.pre.side_is c.next.ensures.steps)

pub next-requires-in-Behind-clause-pass : goal.next-requires-in-Behind-clause-pass
next-requires-in-Behind-clause-pass c = pass_is Behind c.args.self.now

pub returns-in-Behind-clause-steps : goal.returns-in-Behind-clause-steps
returns-in-Behind-clause-steps c =
    let l = c.args.self.now in
    rw c.in-Behind.is
    (subst (λ (s : Side). (before : PassState) → passes_on Behind l c.args.number ≡ Some before
    → IfOk c.next-in-Behind.result (Steps s (code_of l.code) c.args.tables.now c.args.number before))
    l.post.side_is c.next-in-Behind.ensures.steps)
