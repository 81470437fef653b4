use Rattle.std.proofs.Common.{inr, map, sym, ap, subst, ◌∙◌}
use Rattle.chain_text.specs.Tokens.{placed_of, tokens_of}
use Rattle.chain_text.specs.Grammar.{spelled}
use Rattle.chain_text.specs.Reads.{offset_at}
use Rattle.chain_text.specs.Statements.{statements_of}
use Rattle.chain_text.specs.Refused.{IsGrammarError}
use Rattle.chain_text.specs.declared.grammar.GrammarError.{GrammarError}
use Rattle.chain_text.proofs.ReaderAnswers.{spelling_found, wrong_found}
use Rattle.chain_text.proofs.reader.read_tokens.Goals as goal

pub read_statements-requires : goal.read_statements-requires
read_statements-requires c =
    let text = c.args.text.now in
    spelling_found text c.args.found.now (statements_of text c.deref.result.now) c.requires
    (c.in-Ok.ensures.ok text ∙ ap (λ l. spelled (statements_of text l)) (sym c.deref.ensures.value))

pub returns-in-Err-Wrong-clause-err : goal.returns-in-Err-Wrong-clause-err
returns-in-Err-Wrong-clause-err c =
    let text = c.args.text.now in
    let found = c.args.found.now in
    let P : GrammarError → Type 0 = IsGrammarError (tokens_of text found) in
    let wrong = subst P c.in-Err-Wrong.field-0-is (c.in-Err-Wrong.ensures.err text) in
    let there = c.offset_at.ensures ∙ ap (offset_at text (map (placed_of text) found)) c.in-Err-Wrong.place-is in
    inr (wrong_found text found c.in-Err-Wrong.place c.offset_at.result c.requires wrong there)
