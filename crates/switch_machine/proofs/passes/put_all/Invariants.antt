use Rattle.std.proofs.Common.{◌≡◌, drop}
use Rattle.switch_machine.specs.Ready.{all_placed, paired}
use Rattle.switch_machine.proofs.passes.put_all.Given as goal

abbrev pub invariant-loop-index : goal.invariant-loop-index
invariant-loop-index l =
    all_placed l.registers (paired (drop l.index l.places) (drop l.index l.numbers)) ≡ all_placed l.fn.registers (paired l.places l.numbers)
