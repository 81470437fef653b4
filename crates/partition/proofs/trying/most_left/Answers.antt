use Rattle.std.proofs.Common.{◌≡◌, suc, subst, arith}
use Rattle.flat_ir.specs.Program.{program_of}
use Rattle.partition.specs.Tried.{IsTooMuch}
use Rattle.partition.proofs.trying.most_left.Goals as goal

pub returns : goal.returns
returns c =
    let next : c.loop-left.many ≡ suc c.loop-left.left = omega (arith, c.loop-left.invariant.above, c.loop-left-test.false) in
    record {
      fewer = omega (arith, c.loop-left.invariant.above, c.loop-left.invariant.within);
      much = subst (λ n. IsTooMuch (program_of c.args.f.now) c.args.limits.now n) next c.loop-left.invariant.much;
    }
