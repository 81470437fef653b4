use Rattle.std.proofs.Common.{◌≡◌, ◌+◌, ◌≤◌, length}
use Rattle.gal_io.specs.Lines.{lines}
use Rattle.run_text.specs.Trace.{behind_fine}
use Rattle.run_text.proofs.schedule.split_fine.Given as goal

-- the lines so far were skipped
abbrev pub invariant-loop-line : goal.invariant-loop-line
invariant-loop-line l = record {
  few : l.number + length l.ahead ≤ length l.text;
  ahead : behind_fine l.number (lines l.ahead) ≡ behind_fine 0 (lines l.text);
}

abbrev pub decreases-loop-line : goal.decreases-loop-line
decreases-loop-line l = length l.ahead
