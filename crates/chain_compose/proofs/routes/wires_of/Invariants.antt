use Rattle.std.proofs.Common.{◌≡◌, ◌++◌, ◌-◌, ◌≤◌}
use Rattle.element_chain.specs.Compose.{wires_from, wires_of}
use Rattle.chain_compose.proofs.routes.wires_of.Given as goal

abbrev pub invariant-loop-output : goal.invariant-loop-output
invariant-loop-output l =
    (l.output ≤ 256) × (l.found.items ++ wires_from l.wires l.element (256 - l.output) l.output ≡ wires_of l.wires l.element)
