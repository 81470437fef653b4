use Rattle.std.proofs.Common.{◌≡◌, [], length, drop}
use Rattle.report_text.specs.Parse.{keys_at}
use Rattle.report_text.proofs.row.read_keys.Given as goal

-- what is ahead, behind the numbers so far, gives what the whole gives
abbrev pub invariant-loop-at : goal.invariant-loop-at
invariant-loop-at l = record {
  count : length l.keys ≡ l.at;
  ahead : keys_at l.keys (drop l.at l.widths) l.ahead ≡ keys_at [] l.widths l.line;
}
