use Rattle.std.proofs.Common.{◌≡◌, [], ap, ◌∙◌, arith, rules}
use Rattle.slot_table.specs.Layout.{slot_rows}
use Rattle.slot_table.proofs.Layouts.{laying_starts, laying_goes_on, laying_gap, laying_ends, nothing_left}
use Rattle.slot_table.proofs.layout.lay_out.Goals as goal

pub loop-row-init : goal.loop-row-init
loop-row-init g c = record {
  laying = laying_starts c.args.seed c.args.slots.now.items c.clear.new.slots.items c.list.new.rows.items c.requires.slots c.clear.ensures (c.list.ensures.rows ∙ ap slot_rows c.deref.ensures.value);
  room = c.list.ensures.capacity;
}

pub settle-requires : goal.settle-requires
settle-requires g c =
    (search rules, (search rules, laying_gap c.args.seed c.loop-row.reach c.args.slots.now.items c.loop-row.slots.items c.loop-row.spare.items c.loop-row.invariant.laying))

pub loop-row-preserved : goal.loop-row-preserved
loop-row-preserved g c = record {
  laying = laying_goes_on c.args.seed c.loop-row.reach c.max-reach.result c.args.slots.now.items c.loop-row.slots.items c.settle.new.slots.items c.loop-row.spare.items c.pop.new.self.items c.in-Some.row
      c.settle.result c.requires.slots c.loop-row.invariant.laying c.in-Some.ensures.items c.settle.ensures (omega (arith, c.max-reach.ensures)) (omega (arith, c.max-reach.ensures));
  room = omega (arith, c.loop-row.invariant.room, c.pop.ensures.capacity);
}

pub returns-clause-slots : goal.returns-clause-slots
returns-clause-slots g c =
    let none : c.loop-row.spare.items ≡ [] = nothing_left c.loop-row.spare.items (omega (arith, c.in_default.ensures.cases.0, c.loop-row.spare.ok.0)) in
    laying_ends c.args.seed c.loop-row.reach c.args.slots.now.items c.loop-row.slots.items c.loop-row.spare.items c.loop-row.invariant.laying none
