use Rattle.lexer.proofs.Laws.{one_list_or_one_place-apart, one_list_or_one_place-list}
use Rattle.lexer.proofs.FoundTokens.{found_pushed, found_end, found_error}
use Rattle.lexer.proofs.tokenizer.tokens.Goals as goal

pub returns-then-start-text-clause-only : goal.returns-then-start-text-clause-only
returns-then-start-text-clause-only g c =
    let lexeme = g.T.Lexical.lexeme in
    let whole = found_end lexeme c.each.invariant c.past_gap-start.ensures.value c.if-start-text.true in
    λ others h. one_list_or_one_place-list lexeme g.met.T.Lexical.none_in_empty c.args.text.now others _ h whole

pub returns-then-start-text-clause-whole : goal.returns-then-start-text-clause-whole
returns-then-start-text-clause-whole g c =
    let lexeme = g.T.Lexical.lexeme in
    let whole = found_end lexeme c.each.invariant c.past_gap-start.ensures.value c.if-start-text.true in
    λ offset h. one_list_or_one_place-apart lexeme g.met.T.Lexical.none_in_empty c.args.text.now offset _ h whole

pub returns-in_default-clause-err : goal.returns-in_default-clause-err
returns-in_default-clause-err g c =
    let start = c.past_gap-start.ensures in
    found_error g.T.Lexical.lexeme g.met.T.Lexical.none_in_empty c.each.invariant start.value start.within
    c.if-start-text.false c.in_default.ensures.found

pub each-preserved : goal.each-preserved
each-preserved g c =
    let text = c.args.text.now in
    let read = c.in-Some.ensures in
    found_pushed g.T.Lexical.lexeme g.T.Lexical.meaning text c.each.found.items c.push.new.self.items c.in-Some.lexeme
    c.each.offset c.past_gap-start.result c.each.invariant c.past_gap-start.ensures.value read.found read.within c.in_ok-push.ensures.items
