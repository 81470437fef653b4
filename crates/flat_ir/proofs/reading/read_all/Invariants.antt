use Rattle.std.proofs.Common.{◌≡◌, map, take, length}
use Rattle.flat_ir.proofs.reading.read_all.Given as goal

abbrev pub invariant-loop-value : goal.invariant-loop-value
invariant-loop-value g l = (l.row ≡ map (g.R.Numbers.reads l.numbers) (take l.value-index l.values)) × (length l.row ≡ l.value-index)
