use Rattle.std.proofs.Common.{take, ap, length, arith}
use Rattle.std.proofs.lemmas.Bool.{MatchBool-at_true, MatchBool-at_false}
use Rattle.std.proofs.lemmas.List.{length-map}
use Rattle.chain_text.specs.Statements.{statement_of, statements_of}
use Rattle.chain_text.proofs.Declared.{few_before}
use Rattle.chain_text.proofs.TakingAll.{taken_next, refused_next, all_taken}
use Rattle.chain_text.proofs.reader.take_all.Goals as goal

pub take-requires : goal.take-requires
take-requires c =
    omega (arith, ap length c.loop-place.invariant.elements, few_before (statements_of c.args.text.now c.args.statements.now) c.loop-place.place)

pub loop-place-preserved : goal.loop-place-preserved
loop-place-preserved c =
    let h = c.in_ok-take.ensures (take c.loop-place.place (statements_of c.args.text.now c.args.statements.now)) c.loop-place.invariant in
    taken_next c.args.text.now c.args.statements.now c.loop-place.place _ c.take.new.self c.loop-place-test.true
    (MatchBool-at_true _ _ c.if-not-branch.false h)

pub returns-then-not-branch-clause-err : goal.returns-then-not-branch-clause-err
returns-then-not-branch-clause-err c =
    let h = c.in_ok-take.ensures (take c.loop-place.place (statements_of c.args.text.now c.args.statements.now)) c.loop-place.invariant in
    refused_next c.args.text.now c.args.statements.now c.loop-place.place _ c.told.result c.loop-place-test.true c.loop-place.invariant.none
    (MatchBool-at_false _ _ c.if-not-branch.true h) c.told.ensures

pub returns-clause-ok : goal.returns-clause-ok
returns-clause-ok c =
    all_taken (statements_of c.args.text.now c.args.statements.now) c.loop-place.place c.loop-place.builder c.finish.result c.loop-place.invariant
    (omega (arith, length-map c.args.statements.now (statement_of c.args.text.now))) c.finish.ensures.elements c.finish.ensures.wires
