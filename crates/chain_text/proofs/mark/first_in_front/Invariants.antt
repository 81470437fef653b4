use Rattle.std.proofs.Common.{◌≡◌, drop}
use Rattle.std.specs.List.{find}
use Rattle.chain_text.specs.Token.{stands}
use Rattle.chain_text.proofs.mark.first_in_front.Given as goal

abbrev pub invariant-loop-mark : goal.invariant-loop-mark
invariant-loop-mark l = find (stands l.bytes) l.list ≡ find (stands l.bytes) (drop l.mark-index l.list)
