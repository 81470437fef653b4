use Rattle.std.proofs.Common.{◌≡◌, map, take, length}
use Rattle.transfer_header.specs.Ready.{reads_at}
use Rattle.transfer_header.proofs.ready.key_at.Given as goal

abbrev pub invariant-loop-value : goal.invariant-loop-value
invariant-loop-value l = (l.key ≡ map (reads_at l.items) (take l.value-index l.keys)) × (length l.key ≡ l.value-index)
