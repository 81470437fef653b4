use Rattle.std.proofs.Common.{◌+◌}
use Rattle.chain_compose.specs.Parts.{chain_of}
use Rattle.chain_compose.specs.Tallies.{AreEndings, AreLevels}
use Rattle.chain_compose.proofs.parts.Parts.levels.Given as goal

abbrev pub invariant-loop : goal.invariant-loop
invariant-loop l = record {
  endings : AreEndings l.gauge (chain_of l.self) l.counter l.endings.items;
  levels : AreLevels l.gauge (chain_of l.self) (l.counter + 1) l.levels;
}
