use Rattle.std.proofs.Common.{◌≡◌, ◌+◌, ◌≤◌, drop, ap, arith, length, max}
use Rattle.std.specs.Prelude.{slice_index, slice_index_or, false, if◌then◌else◌}
use Rattle.flat_ir.specs.Program.{work_of, operands}
use Rattle.flat_ir.specs.Stages.{deepest}
use Rattle.dependence.proofs.Ahead.{ahead}
use Rattle.lemmas.proofs.Lists.{drop_past}
use Rattle.dependence.proofs.depth.deepest_operand.Goals as goal

pub loop-place-preserved : goal.loop-place-preserved
loop-place-preserved c =
    let members = c.args.members.now in
    let depths = c.args.depths.now in
    let all = operands (work_of c.args.kind.now) in
    let value = c.operand.result in
    let place = c.loop-place.place in
    let next : deepest members depths (drop place all)
    ≡ max (if slice_index_or members value.instruction false then slice_index depths value.instruction else 0) (deepest members depths (drop (place + 1) all)) =
    ap (deepest members depths) (ahead all place value c.operand.ensures) in
    let before : max c.loop-place.found (deepest members depths (drop place all)) ≡ deepest members depths all = c.loop-place.invariant in
    grind (arith, next, before, c.depth_at.ensures, c.max-found.ensures)

pub returns : goal.returns
returns c =
    let members = c.args.members.now in
    let depths = c.args.depths.now in
    let all = operands (work_of c.args.kind.now) in
    let past : length all ≤ c.loop-place.place = omega (arith, c.operand_count-place-end.ensures) in
    let none : deepest members depths (drop c.loop-place.place all) ≡ 0 = ap (deepest members depths) (drop_past all c.loop-place.place past) in
    let before : max c.loop-place.found (deepest members depths (drop c.loop-place.place all)) ≡ deepest members depths all = c.loop-place.invariant in
    omega (arith, none, before)
