use Rattle.std.proofs.Common.{◌≤◌, length, take}
use Rattle.output_commit.specs.Spans.{AreTallied}
use Rattle.output_commit.proofs.tally.Tally.reserve.Given as goal

abbrev pub invariant-loop-update : goal.invariant-loop-update
invariant-loop-update l = record {
  kept : length l.fn.self.counts.items ≤ length l.self.counts.items;
  room : AreTallied l.self (take l.update-index l.updates);
}
