use Rattle.std.proofs.Common.{◌<◌, ◌≤◌, length, ◌∙◌, arith}
use Rattle.std.specs.FinMap.{len}
use Rattle.state_store.proofs.SlotRows.{slot_copied, slot_fits, copied_all}
use Rattle.state_store.proofs.any_table.copy_table.Goals as goal

pub put_slot-requires : goal.put_slot-requires
put_slot-requires g c =
    let t = c.args.table.now in
    let lt : c.loop-i.i < length t.slots = omega arith in
    let within : len t.rows ≤ c.loop-i.made.capacity = omega arith in
    let room = slot_fits t.rows c.loop-i.made.rows t.slots c.loop-i.i c.loop-i.made.capacity c.slot-row.result c.slots-slots.ensures.rows lt c.slot-row.ensures c.loop-i.invariant.rows within in
    (omega arith, (omega (arith, c.requires.keys), (omega (arith, c.requires.values), (c.requires.keys, (c.requires.values, room)))))

pub loop-i-preserved : goal.loop-i-preserved
loop-i-preserved g c =
    let t = c.args.table.now in
    let lt : c.loop-i.i < length t.slots = omega arith in
    record {
      within = omega arith;
      capacity = c.put_slot.ensures.capacity ∙ c.loop-i.invariant.capacity;
      rows = slot_copied t.rows c.loop-i.made.rows c.put_slot.new.made.rows t.slots c.loop-i.i c.slot-row.result c.slots-slots.ensures.rows lt c.slot-row.ensures c.loop-i.invariant.rows c.put_slot.ensures.rows;
    }

pub returns-clause-rows : goal.returns-clause-rows
returns-clause-rows g c =
    let t = c.args.table.now in
    let all : length t.slots ≤ c.loop-i.i = omega arith in
    copied_all t.rows c.loop-i.made.rows t.slots c.loop-i.i c.slots-slots.ensures.rows all c.loop-i.invariant.rows
