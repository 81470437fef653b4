use Rattle.std.proofs.Common.{◌≡◌, length}
use Rattle.switch_machine.proofs.TableRows.{AreStarts}
use Rattle.switch_machine.proofs.tables.SwitchTables.start.Given as goal

abbrev pub invariant-loop-number : goal.invariant-loop-number
invariant-loop-number l = record {
  count : length l.pairs.items ≡ l.number;
  pairs : AreStarts l.code.writeback l.tables l.number l.pairs.items;
}
