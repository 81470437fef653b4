use Rattle.chain_compose.specs.SendLevels.{AreDepths}
use Rattle.chain_compose.specs.Parts.{chain_of}
use Rattle.chain_compose.proofs.parts.Parts.depth.Given as goal

abbrev pub invariant-loop : goal.invariant-loop
invariant-loop l = AreDepths (chain_of l.self) l.counter l.depths.items
