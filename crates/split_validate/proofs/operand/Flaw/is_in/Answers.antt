use Rattle.std.proofs.Common.{◌≡◌, ◌∙◌, ◌+◌, ◌≤◌, ◌||◌, drop, sym, ap, arith, length, false, true}
use Rattle.flat_ir.specs.Program.{work_of, operands}
use Rattle.split_validate.specs.Flaws.{any_flawed, has_flaw}
use Rattle.split_validate.proofs.Operands.{ahead}
use Rattle.lemmas.proofs.Lists.{drop_past}
use Rattle.split_validate.proofs.operand.Flaw.is_in.Goals as goal

pub returns : goal.returns
returns c =
    let all = operands (work_of c.args.kind.now) in
    let past : length all ≤ c.loop-place.place = omega (arith, c.operand_count-place-end.ensures) in
    sym (ap (any_flawed c.args.self c.args.s.now) (drop_past all c.loop-place.place past)) ∙ c.loop-place.invariant

pub returns-then-is_of : goal.returns-then-is_of
returns-then-is_of c =
    let split = c.args.s.now in
    let all = operands (work_of c.args.kind.now) in
    let value = c.operand.result in
    let here : has_flaw c.args.self split value.instruction ≡ true = sym c.is_of.ensures ∙ c.if-is_of.true in
    sym (ap (λ b. b || any_flawed c.args.self split (drop (c.loop-place.place + 1) all)) here)
    ∙ sym (ap (any_flawed c.args.self split) (ahead all c.loop-place.place value c.operand.ensures)) ∙ c.loop-place.invariant

pub loop-place-preserved : goal.loop-place-preserved
loop-place-preserved c =
    let split = c.args.s.now in
    let all = operands (work_of c.args.kind.now) in
    let value = c.operand.result in
    let out : has_flaw c.args.self split value.instruction ≡ false = sym c.is_of.ensures ∙ c.if-is_of.false in
    sym (ap (λ b. b || any_flawed c.args.self split (drop (c.loop-place.place + 1) all)) out)
    ∙ sym (ap (any_flawed c.args.self split) (ahead all c.loop-place.place value c.operand.ensures)) ∙ c.loop-place.invariant
