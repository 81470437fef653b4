use Rattle.std.proofs.Common.{◌∙◌, ◌+◌, ap, arith, length}
use Rattle.std.specs.Prelude.{slice_index}
use Rattle.resource_limits.proofs.Tallies.{length-first_numbers}
use Rattle.resource_limits.proofs.counting.sums.Goals as goal

pub of-requires : goal.of-requires
of-requires c =
    let count = ap length c.loop-o.invariant
    ∙ length-first_numbers c.loop-o.o (λ o. slice_index c.args.before.now o + slice_index c.args.after.now o) in
    omega arith
