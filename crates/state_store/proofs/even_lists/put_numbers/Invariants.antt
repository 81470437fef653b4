use Rattle.std.proofs.Common.{◌≡◌, ◌+◌, ◌++◌, take, vec_capacity, vec_len}
use Rattle.state_store.proofs.even_lists.put_numbers.Given as goal

abbrev pub invariant-loop-number : goal.invariant-loop-number
invariant-loop-number l = record {
  items : l.numbers.items ≡ l.initial.numbers.items ++ take l.number-index l.list;
  len : vec_len l.numbers ≡ vec_len l.initial.numbers + l.number-index;
  capacity : vec_capacity l.numbers ≡ vec_capacity l.initial.numbers;
}
