use Rattle.std.proofs.Common.{◌≡◌, map}
use Rattle.chain_compose.specs.Routes.{all_routes}
use Rattle.chain_compose.proofs.routes.Routes.new.Given as goal

abbrev pub invariant-loop-element : goal.invariant-loop-element
invariant-loop-element l = map (λ list. list.items) l.lists.items ≡ all_routes l.wires l.element
