use Rattle.std.proofs.Common.{◌≡◌, ◌++◌, List, length, take, true}
use Rattle.writeback_table.specs.declared.command.Update.{Update}
use Rattle.output_commit.specs.Batches.{fits}
use Rattle.output_commit.specs.Spans.{IsTallied}
use Rattle.output_commit.proofs.tally.Tally.count.Given as goal

-- what was counted before and the changes so far are counted, and fit where those before did
abbrev pub invariant-loop-update : goal.invariant-loop-update
invariant-loop-update l = record {
  size : length l.self.counts.items ≡ length l.fn.self.counts.items;
  counted : (before : List Update) → IsTallied l.fn.self before → IsTallied l.self (before ++ take l.update-index l.updates);
  few : (before : List Update) → IsTallied l.fn.self before → fits l.most before ≡ true → fits l.most (before ++ take l.update-index l.updates) ≡ true;
}
