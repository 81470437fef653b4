use Rattle.std.proofs.Common.{◌≡◌, true}
use Rattle.output_commit.specs.Batches.{fits}
use Rattle.output_commit.specs.Spans.{AreTallied, IsTallied, batch_in}
use Rattle.output_commit.proofs.BegunBatches.{Taking}
use Rattle.output_commit.proofs.batches.take_up.Given as goal

abbrev pub invariant-loop-count : goal.invariant-loop-count
invariant-loop-count l = record {
  taking : Taking l.most l.updates l.spans l.span l.count;
  counted : IsTallied l.tally (batch_in l.updates l.span).updates;
  held : fits l.most (batch_in l.updates l.span).updates ≡ true;
  tallied : AreTallied l.tally l.updates;
}
