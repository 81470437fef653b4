use Rattle.std.proofs.Common.{◌≡◌, ◌+◌, ◌<◌, ◌*◌, ◌≤◌, ◌++◌, vec_len, vec_capacity}
use Rattle.std.specs.List.{All}
use Rattle.transfer_header.specs.Bits.{bits_of, bits_in}
use Rattle.transfer_header.proofs.bits.push_bytes.Given as goal

-- the bytes so far, with the bits that are left, are all
abbrev pub invariant-loop-left : goal.invariant-loop-left
invariant-loop-left l = record {
  are : All (λ byte. byte < 256) l.bytes.items;
  narrow : l.left ≤ 64;
  within : 8 * vec_len l.bytes + l.left ≤ 8 * vec_capacity l.bytes;
  bits : bits_in l.bytes.items ++ bits_of l.left l.number ≡ bits_in l.fn.bytes.items ++ bits_of l.count l.number;
  capacity : vec_capacity l.bytes ≡ vec_capacity l.fn.bytes;
}

abbrev pub decreases-loop-left : goal.decreases-loop-left
decreases-loop-left l = l.left
