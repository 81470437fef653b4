use Rattle.std.proofs.Common.{◌≡◌, drop}
use Rattle.report_text.specs.Machine.{next_from}
use Rattle.report_text.proofs.reading.next_object.Given as goal

-- none so far is the one
abbrev pub invariant-loop-number : goal.invariant-loop-number
invariant-loop-number l = next_from l.number (drop l.number l.objects) ≡ next_from l.from (drop l.from l.objects)
