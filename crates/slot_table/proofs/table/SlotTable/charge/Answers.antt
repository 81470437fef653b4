use Rattle.std.proofs.Common.{arith}
use Rattle.slot_table.proofs.Layouts.{rows_counted, can_lay_out}
use Rattle.slot_table.proofs.table.SlotTable.charge.Goals as goal

pub lay_out-reach-requires : goal.lay_out-reach-requires
lay_out-reach-requires g c =
    let a = c.self.inside in
    let kept = c.self.invariant in (
      omega (arith, c.requires.keys),
      (
        omega (arith, c.requires.values),
        (can_lay_out a.seed a.reach a.slots.items a.len a.capacity kept.table, (omega (arith, rows_counted a.slots.items, kept.table.count, kept.table.within, kept.enough), kept.empty)),
      ),
    )
