use Rattle.std.proofs.Common.{◌≡◌, ◌++◌, drop}
use Rattle.flat_ir.specs.Listing.{values_text}
use Rattle.flat_ir.proofs.listing.put_values.Given as goal

abbrev pub invariant-loop-value : goal.invariant-loop-value
invariant-loop-value l = l.text ++ values_text (drop l.value-index l.values) ≡ l.initial.text ++ values_text l.values
