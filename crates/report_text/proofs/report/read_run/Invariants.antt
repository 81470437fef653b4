use Rattle.std.proofs.Common.{◌≡◌, ◌≤◌, ◌+◌, length, drop, take, Some}
use Rattle.gal_io.specs.Lines.{lines, told_of}
use Rattle.report_text.specs.Machine.{at_start}
use Rattle.report_text.proofs.Walked.{walked}
use Rattle.report_text.proofs.report.read_run.Given as goal

-- what was read is what the lines so far tell
abbrev pub invariant-loop-line : goal.invariant-loop-line
invariant-loop-line l = record {
  within : l.number ≤ length (lines l.text);
  bytes : l.number + length l.ahead ≤ length l.text;
  ahead : lines l.ahead ≡ drop l.number (lines l.text);
  read : walked l.objects at_start (told_of (take l.number (lines l.text))) ≡ Some l.reading;
}

abbrev pub decreases-loop-line : goal.decreases-loop-line
decreases-loop-line l = length l.ahead
