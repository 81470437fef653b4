use Rattle.std.proofs.Common.{◌≡◌, ◌<◌, length, arith}
use Rattle.std.proofs.lemmas.Grind.{common_steps}
use Rattle.std.proofs.lemmas.List.{length-map}
use Rattle.element_tokens.specs.Tokens.{token_of}
use Rattle.element_grammar.proofs.DeclarationPieces.{made_whole, too_long}
use Rattle.element_grammar.proofs.parser.whole.Goals as goal

pub returns-then-not-is_empty-clause-err : goal.returns-then-not-is_empty-clause-err
returns-then-not-is_empty-clause-err c =
    let text = c.args.text.now in
    let rest = c.in_ok-body.rest.now in
    let more : 0 < length rest = grind (arith, common_steps) in
    let same = length-map rest (λ p. token_of text p.token) in
    too_long c.in_ok-objects.ensures.ok c.in_ok-rest.ensures.ok c.in_ok-body.ensures.ok (omega arith) c.wrong.ensures

pub returns-clause-ok : goal.returns-clause-ok
returns-clause-ok c =
    let text = c.args.text.now in
    let rest = c.in_ok-body.rest.now in
    let nothing : length rest ≡ 0 = grind (arith, common_steps) in
    let same = length-map rest (λ p. token_of text p.token) in
    made_whole c.in_ok-objects.ensures.ok c.in_ok-rest.ensures.ok c.in_ok-body.ensures.ok (omega arith)
