use Rattle.std.proofs.Common.{◌≡◌, ◌++◌, drop}
use Rattle.chain_compose.specs.NamedFrom.{all_declared_steps}
use Rattle.chain_compose.proofs.name_steps.put_declares.Given as goal

abbrev pub invariant-loop : goal.invariant-loop
invariant-loop l = l.out.items ++ all_declared_steps (drop l.counter l.locals) ≡ l.fn.out.items ++ all_declared_steps l.locals
