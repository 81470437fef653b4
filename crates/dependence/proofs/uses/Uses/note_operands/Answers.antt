use Rattle.std.proofs.Common.{◌∙◌, ◌+◌, drop, ◌≤◌, sym, ap, arith, length}
use Rattle.flat_ir.specs.Program.{work_of, operands}
use Rattle.dependence.specs.Noted.{noted_all}
use Rattle.dependence.proofs.Ahead.{ahead}
use Rattle.lemmas.proofs.Lists.{drop_past}
use Rattle.dependence.proofs.uses.Uses.note_operands.Goals as goal

pub loop-place-preserved : goal.loop-place-preserved
loop-place-preserved c =
    let all = operands (work_of c.args.kind.now) in
    let user = c.args.user in
    let value = c.operand.result in
    ap (λ rows. noted_all rows user (drop (c.loop-place.place + 1) all)) c.in_ok-note.ensures
    ∙ sym (ap (λ vs. noted_all c.loop-place.self user vs) (ahead all c.loop-place.place value c.operand.ensures))
    ∙ c.loop-place.invariant

pub returns : goal.returns
returns c =
    let all = operands (work_of c.args.kind.now) in
    let past : length all ≤ c.loop-place.place = omega (arith, c.operand_count-place-end.ensures) in
    sym (ap (λ vs. noted_all c.loop-place.self c.args.user vs) (drop_past all c.loop-place.place past)) ∙ c.loop-place.invariant
