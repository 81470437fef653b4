use Rattle.lossy_link.proofs.Spelled.{IsRead}
use Rattle.lossy_link.proofs.command.read_words.Given as goal

abbrev pub invariant-loop-i : goal.invariant-loop-i
invariant-loop-i l = IsRead l.widths l.numbers l.bytes l.i
