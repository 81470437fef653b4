use Rattle.std.proofs.Common.{◌≡◌, ◌/◌, ◌%◌, ◌<◌, ◌||◌, ◌&&◌, ℕ, false, get_or, vec_len}
use Rattle.chain_text.specs.Reached.{entry}
use Rattle.chain_text.proofs.reach.Reach.by_way.Given as goal

abbrev pub invariant-loop-place : goal.invariant-loop-place
invariant-loop-place l = record {
  size : vec_len l.rows ≡ l.place;
  so_far : (k : ℕ) → k < l.place → get_or l.rows.items k false
      ≡ (entry l.self (k / l.self.count) (k % l.self.count) || entry l.self (k / l.self.count) l.through && entry l.self l.through (k % l.self.count));
}
