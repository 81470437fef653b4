use Rattle.std.proofs.Common.{◌≡◌, ◌∙◌, ◌+◌, ◌≤◌, ◌&&◌, drop, sym, ap, arith, length, false, true}
use Rattle.std.specs.Prelude.{slice_index_or}
use Rattle.flat_ir.specs.Program.{work_of, operands}
use Rattle.dependence.specs.Marked.{are_marked}
use Rattle.dependence.proofs.Ahead.{ahead}
use Rattle.lemmas.proofs.Lists.{drop_past}
use Rattle.dependence.proofs.operand.has_operands.Goals as goal

pub returns : goal.returns
returns c =
    let all = operands (work_of c.args.kind.now) in
    let past : length all ≤ c.loop-place.place = omega (arith, c.operand_count-place-end.ensures) in
    sym (ap (are_marked c.args.marks.now) (drop_past all c.loop-place.place past)) ∙ c.loop-place.invariant

pub returns-then-not-at : goal.returns-then-not-at
returns-then-not-at c =
    let marks = c.args.marks.now in
    let all = operands (work_of c.args.kind.now) in
    let value = c.operand.result in
    let out : slice_index_or marks value.instruction false ≡ false = sym c.at.ensures ∙ c.if-not-at.true in
    sym (ap (λ b. b && are_marked marks (drop (c.loop-place.place + 1) all)) out)
    ∙ sym (ap (are_marked marks) (ahead all c.loop-place.place value c.operand.ensures)) ∙ c.loop-place.invariant

pub loop-place-preserved : goal.loop-place-preserved
loop-place-preserved c =
    let marks = c.args.marks.now in
    let all = operands (work_of c.args.kind.now) in
    let value = c.operand.result in
    let here : slice_index_or marks value.instruction false ≡ true = sym c.at.ensures ∙ c.if-not-at.false in
    sym (ap (λ b. b && are_marked marks (drop (c.loop-place.place + 1) all)) here)
    ∙ sym (ap (are_marked marks) (ahead all c.loop-place.place value c.operand.ensures)) ∙ c.loop-place.invariant
