use Rattle.std.proofs.Common.{take}
use Rattle.chain_text.specs.Statements.{statements_of}
use Rattle.chain_text.specs.Built.{IsBuilt}
use Rattle.chain_text.proofs.reader.take_all.Given as goal

abbrev pub invariant-loop-place : goal.invariant-loop-place
invariant-loop-place l = IsBuilt (take l.place (statements_of l.text l.statements)) l.builder
