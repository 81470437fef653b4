use Rattle.std.proofs.Common.{◌≡◌, ◌++◌, drop}
use Rattle.switch_ir.specs.Journal.{IsFilled, entries_of}
use Rattle.switch_ir.proofs.journal.entries_of.Given as goal

abbrev pub invariant-loop-mark : goal.invariant-loop-mark
invariant-loop-mark l = record {
  filled : IsFilled (drop l.mark-index l.marks) l.numbers_left l.bytes_left;
  made : l.made.items ++ entries_of (drop l.mark-index l.marks) l.numbers_left l.bytes_left ≡ entries_of l.marks l.numbers l.bytes;
}
