use Rattle.std.proofs.Common.{◌≡◌, drop}
use Rattle.element_chain.specs.Wiring.{is_joined}
use Rattle.chain_compose.proofs.reach.is_joined.Given as goal

-- none of those so far does
abbrev pub invariant-loop-wire : goal.invariant-loop-wire
invariant-loop-wire l = is_joined l.wires l.from l.to ≡ is_joined (drop l.wire-index l.wires) l.from l.to
