use Rattle.std.proofs.Common.{◌≡◌, ◌∙◌, ap, arith, length}
use Rattle.resource_limits.specs.Uses.{told_at}
use Rattle.resource_limits.proofs.Tallies.{length-first_numbers, numbers_more}
use Rattle.resource_limits.proofs.Objects.{constant_in}
use Rattle.resource_limits.proofs.counting.told.Goals as goal

pub loop-o-preserved : goal.loop-o-preserved
loop-o-preserved c =
    let kind = constant_in c.args.objects.now c.loop-o.o c.index-objects-o.result (omega arith) in
    let told : c.told_of.result ≡ told_at c.args.objects.now c.args.before.now c.args.changes.now c.loop-o.o = rw kind c.told_of.ensures in
    numbers_more c.loop-o.o (λ o. told_at c.args.objects.now c.args.before.now c.args.changes.now o) c.loop-o.told.items _ _
    c.in_ok-push.ensures.items told c.loop-o.invariant

pub of-requires : goal.of-requires
of-requires c =
    let count = ap length c.loop-o.invariant
    ∙ length-first_numbers c.loop-o.o (λ o. told_at c.args.objects.now c.args.before.now c.args.changes.now o) in
    omega arith
