use Rattle.std.proofs.Common.{◌≡◌, drop}
use Rattle.report_text.specs.Machine.{shown_from}
use Rattle.report_text.proofs.reading.shown_object.Given as goal

-- none so far is the one
abbrev pub invariant-loop-number : goal.invariant-loop-number
invariant-loop-number l = shown_from l.number (drop l.number l.objects) l.line ≡ shown_from l.from (drop l.from l.objects) l.line
