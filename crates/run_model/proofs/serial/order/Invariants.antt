use Rattle.std.proofs.Common.{◌≡◌, map, take}
use Rattle.run_model.proofs.serial.order.Given as goal

abbrev pub invariant-loop-place : goal.invariant-loop-place
invariant-loop-place l = l.numbers.items ≡ map (λ d. d.number) (take l.place-index l.place-items)
