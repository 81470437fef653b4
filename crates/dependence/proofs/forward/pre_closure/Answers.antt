use Rattle.std.proofs.Common.{◌≡◌, ◌+◌, length, subst, sym, arith}
use Rattle.flat_ir.specs.Program.{program_of, step_of}
use Rattle.dependence.proofs.PlacedCode.{placed, here, as_many}
use Rattle.dependence.proofs.PreSets.{IsSoFar, PreMay, needed_of, pre_more, pre_done}
use Rattle.dependence.proofs.forward.pre_closure.Goals as goal

pub loop-i-preserved : goal.loop-i-preserved
loop-i-preserved c =
    let at = here c.args.f.now c.as_slice-code.result.now c.loop-i.i c.index-code-i.result c.as_slice-code.ensures c.loop-i-test.true c.index-code-i.is in
    subst (IsSoFar (program_of c.args.f.now) (PreMay (program_of c.args.f.now) c.args.k) needed_of (c.loop-i.i + 1)) (sym c.in_ok-push.ensures.ok)
    (pre_more (program_of c.args.f.now) c.args.k c.loop-i.i (step_of c.index-code-i.result) c.loop-i.pre c.enters_pre-mark.result (placed (program_of c.args.f.now) c.requires) at c.enters_pre-mark.ensures c.loop-i.invariant)

pub returns : goal.returns
returns c =
    let n = as_many c.args.f.now c.as_slice-code.result.now c.as_slice-code.ensures in
    let end : c.loop-i.i ≡ length (program_of c.args.f.now).code = omega (arith, n, c.loop-i-test.false, c.loop-i.auto.i-end) in
    pre_done (program_of c.args.f.now) c.args.k c.loop-i.pre (subst (λ i. IsSoFar (program_of c.args.f.now) (PreMay (program_of c.args.f.now) c.args.k) needed_of i c.loop-i.pre) end c.loop-i.invariant)
