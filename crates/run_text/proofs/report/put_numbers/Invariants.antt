use Rattle.std.proofs.Common.{◌≡◌, ◌++◌, drop}
use Rattle.gal_io.specs.Number.{spaced_numbers}
use Rattle.run_text.proofs.report.put_numbers.Given as goal

abbrev pub invariant-loop-number : goal.invariant-loop-number
invariant-loop-number l = l.text ++ spaced_numbers (drop l.number-index l.numbers) ≡ l.initial.text ++ spaced_numbers l.numbers
