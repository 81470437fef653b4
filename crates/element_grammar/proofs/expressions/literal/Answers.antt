use Rattle.element_grammar.proofs.Operands.{made_literal}
use Rattle.element_grammar.proofs.expressions.literal.Goals as goal

pub returns-clause-ok : goal.returns-clause-ok
returns-clause-ok c = made_literal c.literal_of.ensures c.in_ok-rest.ensures.ok c.in_ok-width.ensures.ok
