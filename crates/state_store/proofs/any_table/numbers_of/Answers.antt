use Rattle.std.proofs.Common.{◌≡◌, ◌<◌, ◌∷◌, [], ◌++◌, length, arith, ◌∙◌, ap, ap₂, is_some, map, sym}
use Rattle.std.specs.FinMap.{len}
use Rattle.state_store.specs.Sizes.{row_numbers, slot_rows}
use Rattle.state_store.proofs.NumberLaws.{gaps_passed, row_left, row_pushed, rows_pushed}
use Rattle.state_store.proofs.any_table.numbers_of.Goals as goal

pub next_row-place-requires : goal.next_row-place-requires
next_row-place-requires g c = (omega arith, (c.requires.keys, (c.requires.values, c.loop.invariant.within)))

pub slot-requires : goal.slot-requires
slot-requires g c =
    let t = c.args.table.now in
    let so_far = c.loop.invariant in
    let fewer : length c.loop.made.items < len t.rows = omega (arith, so_far.count, c.loop-test.true, c.len-count.ensures.count) in
    let there = row_left t.rows t.slots c.loop.from c.next_row-place.result c.loop.made.items c.slots-slots.ensures.rows fewer so_far.rows c.next_row-place.ensures in
    (omega arith, (omega (arith, c.requires.keys), (omega (arith, c.requires.values), (c.requires.keys, (c.requires.values, there)))))

pub unreachable-requires : goal.unreachable-requires
unreachable-requires g c =
    let t = c.args.table.now in
    let so_far = c.loop.invariant in
    let fewer : length c.loop.made.items < len t.rows = omega (arith, so_far.count, c.loop-test.true, c.len-count.ensures.count) in
    let there = row_left t.rows t.slots c.loop.from c.next_row-place.result c.loop.made.items c.slots-slots.ensures.rows fewer so_far.rows c.next_row-place.ensures in
    let some = c.next_row-place.ensures.row there in
    let none = ap is_some (sym c.slot.ensures ∙ c.in_default.is) in
    absurd (cc)

pub loop-preserved : goal.loop-preserved
loop-preserved g c =
    let t = c.args.table.now in
    let so_far = c.loop.invariant in
    let at = c.next_row-place.result in
    let fewer : length c.loop.made.items < len t.rows = omega (arith, so_far.count, c.loop-test.true, c.len-count.ensures.count) in
    let there = row_left t.rows t.slots c.loop.from at c.loop.made.items c.slots-slots.ensures.rows fewer so_far.rows c.next_row-place.ensures in
    let skipped = ap (λ rows. c.loop.made.items ++ map row_numbers rows) (sym (gaps_passed t.slots c.loop.from at c.next_row-place.ensures)) ∙ so_far.rows in
    let pushed : c.push.new.self.items ≡ c.loop.made.items ++ row_numbers c.in-Some.row ∷ [] =
    c.in_ok-push.ensures.items ∙ ap₂ (λ key value. c.loop.made.items ++ (key, value) ∷ []) c.number.ensures.value c.number-in-loop.ensures.value in
    record {
      within = omega (arith, there);
      count = omega (arith, c.in_ok-push.ensures.len, so_far.count);
      rows = row_pushed t.slots at c.in-Some.row c.loop.made.items c.push.new.self.items (map row_numbers (slot_rows t.slots)) there (sym c.slot.ensures ∙ c.in-Some.is) pushed skipped;
    }

pub returns-clause-rows : goal.returns-clause-rows
returns-clause-rows g c =
    let t = c.args.table.now in
    let so_far = c.loop.invariant in
    rows_pushed t.rows t.slots c.loop.from c.loop.made.items c.slots-slots.ensures.rows (omega (arith, so_far.count, c.loop-test.false, c.len-count.ensures.count)) so_far.rows
