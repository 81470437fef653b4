use Rattle.std.proofs.Common.{◌≡◌, ◌++◌, drop}
use Rattle.gal_io.specs.Number.{spaced_numbers}
use Rattle.gal_io.proofs.text.Text.push_spaced.Given as goal

-- the text so far, and what is ahead, are the whole
abbrev pub invariant-loop-number : goal.invariant-loop-number
invariant-loop-number l = l.«self» ++ spaced_numbers (drop l.number-index l.numbers) ≡ l.initial.«self» ++ spaced_numbers l.numbers
