use Rattle.std.proofs.Common.{subst}
use Rattle.slot_table.specs.Table.{IsLaidOut}
use Rattle.slot_table.proofs.Moves.{laid_out}
use Rattle.slot_table.proofs.table.SlotTable.slots.Goals as goal

pub returns-clause-rows : goal.returns-clause-rows
returns-clause-rows g c = subst (λ t. IsLaidOut t.rows t.slots) c.self.view_is (laid_out c.self.inside.slots.items c.self.invariant.table.distinct)
