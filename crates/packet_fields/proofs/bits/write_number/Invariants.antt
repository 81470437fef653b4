use Rattle.std.proofs.Common.{◌≡◌, ℕ, ◌-◌, ◌*◌, ◌/◌, ◌%◌, ◌^◌, ◌<◌, ◌≤◌, get_or}
use Rattle.packet_fields.proofs.bits.write_number.Given as goal

-- the bytes so far are written, and every other byte is as it was
abbrev pub invariant-loop-i : goal.invariant-loop-i
invariant-loop-i l = record {
  inside : (k : ℕ) → l.first ≤ k → k < l.i → get_or l.packet k 0 ≡ l.number / 2 ^ (8 * (l.end - 1 - k)) % 256;
  before : (k : ℕ) → k < l.first → get_or l.packet k 0 ≡ get_or l.fn.packet k 0;
  behind : (k : ℕ) → l.i ≤ k → get_or l.packet k 0 ≡ get_or l.fn.packet k 0;
}
