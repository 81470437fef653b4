use Rattle.std.proofs.Common.{◌≡◌, ◌++◌, drop}
use Rattle.element_chain.specs.Compose.{locals_from}
use Rattle.chain_compose.proofs.names.locals.Given as goal

abbrev pub invariant-loop-number : goal.invariant-loop-number
invariant-loop-number l = l.locals ++ locals_from l.number (drop l.number l.widths) ≡ locals_from 0 l.widths
