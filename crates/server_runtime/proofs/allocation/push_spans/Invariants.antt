use Rattle.std.proofs.Common.{◌≡◌, ◌++◌, ℕ, map, max, take, get_or}
use Rattle.server_runtime.proofs.allocation.push_spans.Given as goal

abbrev pub invariant-loop-number : goal.invariant-loop-number
invariant-loop-number l = l.spans ≡ l.initial.spans ++ map (λ (n : ℕ). record { value = n; from = l.from; to = max l.from (get_or l.last n 0) }) (take l.number-index l.numbers)
