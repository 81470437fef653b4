use Rattle.std.proofs.Common.{◌≡◌, ◌∷◌}
use Rattle.gal_bits.specs.Operators.{bit}
use Rattle.transfer_header.specs.Ready.{all_placed, first_placed}
use Rattle.transfer_header.proofs.ready.put_found.Given as goal

abbrev pub invariant-loop-index : goal.invariant-loop-index
invariant-loop-index l = l.registers ≡ all_placed l.fn.registers (first_placed l.places (bit l.found.found ∷ l.found.values) l.index)
