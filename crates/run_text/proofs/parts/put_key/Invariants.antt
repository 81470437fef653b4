use Rattle.std.proofs.Common.{◌≡◌, ◌++◌, drop}
use Rattle.run_text.specs.Report.{key_text}
use Rattle.run_text.proofs.parts.put_key.Given as goal

-- the text so far, and what is ahead, are the whole
abbrev pub invariant-loop-number : goal.invariant-loop-number
invariant-loop-number l = l.text ++ key_text (drop l.number-index l.numbers) ≡ l.initial.text ++ key_text l.numbers
