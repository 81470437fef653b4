use Rattle.std.proofs.Common.{◌≡◌, ◌+◌, ◌≤◌, length}
use Rattle.std.specs.List.{list_any}
use Rattle.gal_io.specs.Lines.{lines}
use Rattle.run_text.specs.Trace.{values_until}
use Rattle.run_text.proofs.LineSteps.{Stands, ahead_values, ahead_ended}
use Rattle.run_text.proofs.line_value.read_values.Given as goal

abbrev pub invariant-loop-items : goal.invariant-loop-items
invariant-loop-items g l = record {
  ended : ahead_ended g.V.LineValue.line_ends l.ended (lines l.ahead) ≡ list_any g.V.LineValue.line_ends (lines l.text);
  have : l.have ≤ l.number;
  number : l.number + length l.ahead ≤ l.before + length l.text;
  stands : Stands (ahead_values g.V.LineValue.line_ends g.V.LineValue.line_gives l.ended (l.number + 1) (lines l.ahead)) (values_until g.V.LineValue.line_ends g.V.LineValue.line_gives (l.before + 1) (lines l.text)) l.items.items l.have l.most;
}

abbrev pub decreases-loop-items : goal.decreases-loop-items
decreases-loop-items g l = length l.ahead
