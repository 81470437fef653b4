use Rattle.std.proofs.Common.{◌≡◌, ◌+◌, ◌++◌, vec_capacity, vec_len}
use Rattle.flat_ir.specs.Registers.{results_of}
use Rattle.switch_machine.specs.Ready.{first_placed, only_numbers}
use Rattle.switch_machine.proofs.passes.push_list.Given as goal

abbrev pub invariant-loop-index : goal.invariant-loop-index
invariant-loop-index l = record {
  items : l.results.items ≡ l.fn.results.items ++ only_numbers (first_placed l.places (results_of l.row) l.index);
  len : vec_len l.results ≡ vec_len l.fn.results + l.index;
  capacity : vec_capacity l.results ≡ vec_capacity l.fn.results;
}
