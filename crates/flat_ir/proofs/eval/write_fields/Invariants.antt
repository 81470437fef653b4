use Rattle.std.proofs.Common.{◌≡◌, length, drop}
use Rattle.packet_fields.specs.Shape.{shape_of}
use Rattle.flat_ir.specs.Run.{with_writes}
use Rattle.flat_ir.proofs.eval.write_fields.Given as goal

-- what is ahead, written now, does what all of it did at the start
abbrev pub invariant-loop-written : goal.invariant-loop-written
invariant-loop-written g l =
    (with_writes (drop l.written-index l.fields) (g.R.Numbers.reads l.numbers) l.bytes ≡ with_writes l.fields (g.R.Numbers.reads l.numbers) l.initial.bytes)
    × ((shape_of l.bytes ≡ shape_of l.initial.bytes) × (length l.bytes ≡ length l.initial.bytes))
