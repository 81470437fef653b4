use Rattle.std.proofs.Common.{◌<◌, ◌≤◌, ◌||◌, ◌∙◌, sym, ap, arith, length, take}
use Rattle.std.proofs.lemmas.Option.{get_or_from_slice_get, slice_get_within}
use Rattle.flat_ir.specs.Program.{work_of, operands}
use Rattle.split_model.specs.Crossing.{is_among, is_value}
use Rattle.split_model.proofs.ValueMarks.{same_test, among_more, among_all}
use Rattle.split_model.proofs.values.ValueSet.insert_operands.Goals as goal

pub loop-place-preserved : goal.loop-place-preserved
loop-place-preserved c =
    let all = operands (work_of c.args.kind.now) in
    let place = c.loop-place.place in
    let value = c.operand.result in
    let within : place < length all = slice_get_within all place value c.operand.ensures in
    let same = get_or_from_slice_get all place value value c.operand.ensures in
    λ n test h. same_test n _ _ c.insert.new.self (λ v. ap (λ w. (test v || is_among v (take place all)) || is_value v w) (sym same) ∙ among_more all place value v (test v) within)
    (c.insert.ensures n (λ v. test v || is_among v (take place all)) (c.loop-place.invariant n test h))

pub returns : goal.returns
returns c =
    let all = operands (work_of c.args.kind.now) in
    let past : length all ≤ c.loop-place.place = omega (arith, c.operand_count-place-end.ensures) in
    λ n test h. same_test n _ _ c.loop-place.self (λ v. among_all all c.loop-place.place v (test v) past) (c.loop-place.invariant n test h)
