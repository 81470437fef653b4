use Rattle.std.proofs.Common.{◌≡◌, drop}
use Rattle.state_store.proofs.rows.are_same_one_by_one.Given as goal

-- where the rows from here on are the same, all are
abbrev pub invariant-loop-place : goal.invariant-loop-place
invariant-loop-place l = drop l.place l.some ≡ drop l.place l.others → l.some ≡ l.others
