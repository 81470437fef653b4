use Rattle.std.proofs.Common.{drop}
use Rattle.element_rules.proofs.BlockFaults.{Walking}
use Rattle.element_rules.proofs.blocks.+block.Given as goal

abbrev pub invariant-broken_in-loop-next : goal.invariant-broken_in-loop-next
invariant-broken_in-loop-next l = Walking l.text l.objects l.fn.sight l.sight l.ended (drop l.next-index l.source) l.source
