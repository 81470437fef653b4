use Rattle.std.proofs.Common.{drop, map}
use Rattle.element_text.specs.Scopes.{known_of}
use Rattle.element_text.proofs.TypedExprs.{Typing}
use Rattle.element_text.proofs.expressions.+expression.Given as goal

abbrev pub invariant-expressions-loop-next : goal.invariant-expressions-loop-next
invariant-expressions-loop-next l = Typing l.text (map known_of l.known.entries) l.exprs.items l.widths.items (drop l.next-index l.source) l.source
