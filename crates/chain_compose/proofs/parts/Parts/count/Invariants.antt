use Rattle.chain_compose.specs.Parts.{chain_of}
use Rattle.chain_compose.specs.Tallies.{AreEndings}
use Rattle.chain_compose.proofs.parts.Parts.count.Given as goal

abbrev pub invariant-loop : goal.invariant-loop
invariant-loop l = AreEndings l.gauge (chain_of l.self) l.counter l.endings.items
