use Rattle.element_tokens.specs.Tokens.{token_of, tokens_of}
use Rattle.element_grammar.proofs.OnlyTree.{only_tree, wrong_place, tree_found}
use Rattle.element_grammar.proofs.parser.parse.Goals as goal

pub returns-clause-only : goal.returns-clause-only
returns-clause-only c = only_tree c.args.text.now (tokens_of c.args.text.now c.args.tokens.now) c.whole.result c.whole.ensures.ok

pub returns-clause-wrong : goal.returns-clause-wrong
returns-clause-wrong c = wrong_place (λ p. token_of c.args.text.now p.token) c.args.tokens.now c.whole.result c.whole.ensures.err

pub returns-clause-found : goal.returns-clause-found
returns-clause-found c = tree_found c.args.text.now (tokens_of c.args.text.now c.args.tokens.now) c.whole.result c.whole.ensures.ok c.whole.ensures.err
