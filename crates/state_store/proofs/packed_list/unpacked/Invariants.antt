use Rattle.std.proofs.Common.{◌≡◌, ◌++◌, drop}
use Rattle.state_store.specs.Listing.{rows_of_numbers}
use Rattle.state_store.proofs.packed_list.unpacked.Given as goal

abbrev pub invariant-loop-pair : goal.invariant-loop-pair
invariant-loop-pair l =
    l.rows ++ rows_of_numbers l.key_bits l.value_bits l.keys l.values (drop l.pair-index l.numbers) ≡ rows_of_numbers l.key_bits l.value_bits l.keys l.values l.numbers
