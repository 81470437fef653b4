use Rattle.std.proofs.Common.{◌≡◌, ◌*◌, ◌%◌, ◌^◌, ◌<◌, refl, subst, arith}
use Rattle.state_store.proofs.PackSteps.{in_one, in_two, one_of}
use Rattle.state_store.proofs.packing.words.Goals as goal

pub returns-then-this-eq2 : goal.returns-then-this-eq2
returns-then-this-eq2 g c = in_two g.row.N _ _ c.args.whole c.if-this-eq2.true refl refl

pub returns-else-this-eq2 : goal.returns-else-this-eq2
returns-else-this-eq2 g c =
    let one : g.row.N ≡ 1 = one_of g.row.N c.requires.words c.if-this-eq2.false in
    let small : c.args.whole < 2 ^ 64 = subst (λ n. c.args.whole < 2 ^ (64 * n)) one c.requires.below in
    let same : c.args.whole % 2 ^ 64 ≡ c.args.whole = omega arith in
    in_one g.row.N _ c.args.whole one same
