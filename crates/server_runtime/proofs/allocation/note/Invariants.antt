use Rattle.std.proofs.Common.{◌≡◌, ◌<◌, ℕ, length, get_or, take, if◌then◌else◌}
use Rattle.transfer_header.specs.Steps.{is_among}
use Rattle.server_runtime.proofs.allocation.note.Given as goal

abbrev pub invariant-loop-number : goal.invariant-loop-number
invariant-loop-number l = record {
  count : length l.last.items ≡ length l.initial.last.items;
  last : (n : ℕ) → n < length l.initial.last.items → get_or l.last.items n 0 ≡ (if is_among n (take l.number-index l.numbers) then l.step else get_or l.initial.last.items n 0);
}
