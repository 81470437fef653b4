use Rattle.std.proofs.Common.{map, drop}
use Rattle.element_rules.specs.Seen.{local_of}
use Rattle.element_rules.proofs.ExprFaults.{Testing}
use Rattle.element_rules.proofs.expressions.+expression.Given as goal

abbrev pub invariant-expressions-loop-next : goal.invariant-expressions-loop-next
invariant-expressions-loop-next l = Testing l.text (map local_of l.locals.entries) l.widths.items l.faults (drop l.next-index l.source) l.source
