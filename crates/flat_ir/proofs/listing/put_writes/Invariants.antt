use Rattle.std.proofs.Common.{◌≡◌, ◌++◌, drop}
use Rattle.flat_ir.specs.Listing.{write_lines}
use Rattle.flat_ir.proofs.listing.put_writes.Given as goal

abbrev pub invariant-loop-written : goal.invariant-loop-written
invariant-loop-written l = l.text ++ write_lines (drop l.written-index l.fields) ≡ l.initial.text ++ write_lines l.fields
