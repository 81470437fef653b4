use Rattle.std.proofs.Common.{◌<◌, length, arith}
use Rattle.state_store.specs.Fitted.{packing_of}
use Rattle.state_store.specs.Sizes.{table_of}
use Rattle.state_store.proofs.PourLaws.{slot_listed}
use Rattle.state_store.proofs.packed_rows.list_slots.Goals as goal

pub loop-i-preserved : goal.loop-i-preserved
loop-i-preserved c =
    let t = table_of c.args.table.now in
    let p = packing_of c.args.keys.now c.args.values.now c.args.table.now in
    let lt : c.loop-i.i < length t.slots = omega arith in
    record {
      within = omega arith;
      rows = slot_listed p t.slots c.loop-i.i c.slot-row.result c.loop-i.rows.items c.push_slot.new.rows.items _ lt c.slot-row.ensures.held c.in_ok-push_slot.ensures.rows c.loop-i.invariant.rows;
      capacity = omega arith;
    }
