use Rattle.std.proofs.Common.{arith}
use Rattle.element_tokens.specs.Tokens.{span_text}
use Rattle.element_grammar.proofs.Loops.{sofar_pushed, sofar_end}
use Rattle.element_grammar.proofs.StatementPieces.{one_more_name, end_of_names}
use Rattle.element_grammar.proofs.statements.names.Goals as goal

pub returns-in-Some-clause-ok : goal.returns-in-Some-clause-ok
returns-in-Some-clause-ok c = sofar_end c.each.invariant.0 (end_of_names c.in-Some.ensures.some)

pub each-preserved : goal.each-preserved
each-preserved c = (
  sofar_pushed (span_text c.args.text.now) c.each.found.items c.push.new.self.items c.in_ok-word.word c.each.invariant.0
      (one_more_name c.in_ok-rest.ensures.ok c.in_ok-word.ensures.ok)
      c.in_ok-push.ensures.items,
  omega (arith, c.each.invariant.1, c.in_ok-rest.ensures.shorter, c.in_ok-word.ensures.shorter),
)
