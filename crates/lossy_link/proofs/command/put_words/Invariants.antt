use Rattle.std.proofs.Common.{◌≡◌, ◌++◌, take}
use Rattle.lossy_link.specs.CommandBytes.{word_bytes}
use Rattle.lossy_link.proofs.command.put_words.Given as goal

abbrev pub invariant-loop-number : goal.invariant-loop-number
invariant-loop-number l = l.bytes ≡ l.initial.bytes ++ word_bytes (take l.number-index l.number-items)
