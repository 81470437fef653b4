use Rattle.std.proofs.Common.{take}
use Rattle.partition.specs.Joined.{IsJoined}
use Rattle.partition.proofs.greatest.join.Given as goal

abbrev pub invariant-loop-i : goal.invariant-loop-i
invariant-loop-i l = IsJoined (take l.i l.pre) (take l.i l.carried) (take l.i l.post) (take l.i l.pre_depths) (take l.i l.post_depths) l.items.items
