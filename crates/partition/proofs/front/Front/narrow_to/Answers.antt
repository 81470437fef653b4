use Rattle.std.proofs.Common.{◌<◌, arith}
use Rattle.flat_ir.specs.Program.{program_of}
use Rattle.partition.proofs.Steps.{narrowed}
use Rattle.partition.proofs.front.Front.narrow_to.Goals as goal

pub loop-self-preserved : goal.loop-self-preserved
loop-self-preserved c =
    let f = program_of c.args.f.now in
    let old = c.loop-self.self in
    let new = c.narrow.new.self in
    let some : 0 < old.count = omega (arith, c.loop-self-test.true) in
    record {
      front = narrowed f old new c.requires.formed c.loop-self.invariant.front some c.narrow.ensures.count c.narrow.ensures.pre c.narrow.ensures.carried c.narrow.ensures.depths;
      more = omega (arith, c.loop-self-test.true, c.narrow.ensures.count);
      few = omega (arith, c.loop-self.invariant.few, c.narrow.ensures.count);
    }
