use Rattle.std.proofs.Common.{◌≡◌, ◌∷◌, []}
use Rattle.transfer_header.specs.Ready.{all_placed, first_placed}
use Rattle.transfer_header.proofs.ready.put_first.Given as goal

abbrev pub invariant-loop-index : goal.invariant-loop-index
invariant-loop-index l = l.registers ≡ all_placed l.fn.registers (first_placed l.places (l.number ∷ []) l.index)
