use Rattle.std.proofs.Common.{◌≡◌}
use Rattle.flat_ir.specs.Registers.{results_of}
use Rattle.switch_machine.specs.Ready.{all_placed, first_placed}
use Rattle.switch_machine.proofs.passes.put_list.Given as goal

abbrev pub invariant-loop-index : goal.invariant-loop-index
invariant-loop-index l = l.registers ≡ all_placed l.fn.registers (first_placed l.places (results_of l.row) l.index)
