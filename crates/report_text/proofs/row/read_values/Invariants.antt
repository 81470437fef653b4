use Rattle.std.proofs.Common.{◌≡◌, [], length, drop}
use Rattle.report_text.specs.Parse.{values_at}
use Rattle.report_text.proofs.row.read_values.Given as goal

-- what is ahead, behind the numbers so far, gives what the whole gives
abbrev pub invariant-loop-at : goal.invariant-loop-at
invariant-loop-at l = record {
  count : length l.values ≡ l.at;
  ahead : values_at l.values (drop l.at l.widths) l.ahead ≡ values_at [] l.widths l.line;
}
