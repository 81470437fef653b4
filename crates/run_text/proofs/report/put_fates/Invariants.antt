use Rattle.std.proofs.Common.{◌≡◌, ◌++◌, drop}
use Rattle.run_text.specs.Report.{fate_lines}
use Rattle.run_text.proofs.report.put_fates.Given as goal

-- the text so far, and the lines ahead, are the whole
abbrev pub invariant-loop-number : goal.invariant-loop-number
invariant-loop-number l = l.text ++ fate_lines l.number (drop l.number l.fates) ≡ l.initial.text ++ fate_lines 0 l.fates
