use Rattle.std.proofs.Common.{◌<◌, ◌≤◌, ◌||◌, arith, length, take}
use Rattle.split_model.specs.Crossing.{is_among}
use Rattle.split_model.proofs.ValueMarks.{same_test, among_more, among_all}
use Rattle.split_model.proofs.values.ValueSet.insert_all.Goals as goal

pub loop-value-preserved : goal.loop-value-preserved
loop-value-preserved c =
    let within : c.loop-value.value-index < length c.args.values.now = omega arith in
    λ n test h. same_test n _ _ c.insert.new.self (λ v. among_more c.args.values.now c.loop-value.value-index _ v (test v) within)
    (c.insert.ensures n (λ v. test v || is_among v (take c.loop-value.value-index c.args.values.now)) (c.loop-value.invariant n test h))

pub returns : goal.returns
returns c =
    let past : length c.args.values.now ≤ c.loop-value.value-index = omega arith in
    λ n test h. same_test n _ _ c.loop-value.self (λ v. among_all c.args.values.now c.loop-value.value-index v (test v) past) (c.loop-value.invariant n test h)
