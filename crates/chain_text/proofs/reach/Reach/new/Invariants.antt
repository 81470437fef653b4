use Rattle.chain_text.specs.Reached.{LeadsBy}
use Rattle.chain_text.proofs.reach.Reach.new.Given as goal

abbrev pub invariant-loop-way : goal.invariant-loop-way
invariant-loop-way l = LeadsBy l.wires l.count l.way l.reach
