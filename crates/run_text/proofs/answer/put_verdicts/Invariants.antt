use Rattle.std.proofs.Common.{◌≡◌, ◌++◌, drop}
use Rattle.run_text.specs.Answer.{verdict_lines}
use Rattle.run_text.proofs.answer.put_verdicts.Given as goal

-- the text so far, and the lines ahead, are the whole
abbrev pub invariant-loop-number : goal.invariant-loop-number
invariant-loop-number l = l.text ++ verdict_lines l.number (drop l.number l.verdicts) ≡ l.initial.text ++ verdict_lines 0 l.verdicts
