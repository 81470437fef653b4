use Rattle.std.proofs.Common.{◌≡◌, ◌+◌, ap, length, subst, sym, arith}
use Rattle.flat_ir.specs.Program.{program_of, step_of}
use Rattle.dependence.proofs.PlacedCode.{placed, here, as_many}
use Rattle.dependence.proofs.Deep.{IsDepthsSoFar, depths_more, depths_done}
use Rattle.dependence.proofs.depth.depths.Goals as goal

pub next_depth-depth-requires : goal.next_depth-depth-requires
next_depth-depth-requires c =
    let n = c.loop-i-test.true in
    let m = ap length c.as_slice-code.ensures in
    let few = c.requires.few_instructions in
    λ j. let l = c.loop-i.invariant.low j in omega arith

pub loop-i-preserved : goal.loop-i-preserved
loop-i-preserved c =
    let at = here c.args.f.now c.as_slice-code.result.now c.loop-i.i c.index-code-i.result c.as_slice-code.ensures c.loop-i-test.true c.index-code-i.is in
    subst (IsDepthsSoFar (program_of c.args.f.now) c.args.members.now (c.loop-i.i + 1)) (sym c.in_ok-push.ensures.ok)
    (depths_more (program_of c.args.f.now) c.args.members.now c.loop-i.i (step_of c.index-code-i.result) c.loop-i.depths c.next_depth-depth.result (placed (program_of c.args.f.now) c.requires.formed) at c.next_depth-depth.ensures c.loop-i.invariant)

pub returns : goal.returns
returns c =
    let n = as_many c.args.f.now c.as_slice-code.result.now c.as_slice-code.ensures in
    let end : c.loop-i.i ≡ length (program_of c.args.f.now).code = omega (arith, n, c.loop-i-test.false, c.loop-i.auto.i-end) in
    depths_done (program_of c.args.f.now) c.args.members.now c.loop-i.depths (subst (λ i. IsDepthsSoFar (program_of c.args.f.now) c.args.members.now i c.loop-i.depths) end c.loop-i.invariant)
