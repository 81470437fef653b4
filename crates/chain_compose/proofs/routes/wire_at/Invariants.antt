use Rattle.std.proofs.Common.{◌≡◌, drop}
use Rattle.element_chain.specs.Chain.{wire_at}
use Rattle.chain_compose.proofs.routes.wire_at.Given as goal

-- the wire is none of those so far
abbrev pub invariant-loop-wire : goal.invariant-loop-wire
invariant-loop-wire l = wire_at l.wires l.element l.output ≡ wire_at (drop l.wire-index l.wires) l.element l.output
