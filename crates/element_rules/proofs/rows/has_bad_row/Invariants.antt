use Rattle.std.proofs.Common.{drop}
use Rattle.element_rules.proofs.Doubles.{Collecting}
use Rattle.element_rules.proofs.rows.has_bad_row.Given as goal

abbrev pub invariant-loop-row : goal.invariant-loop-row
invariant-loop-row l = Collecting l.keys l.values l.seen (drop l.row-index l.rows) l.rows
