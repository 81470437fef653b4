use Rattle.std.proofs.Common.{◌≡◌, ◌<◌, ◌≤◌, length, vec_len, vec_capacity, is_ok, sym, ap, ◌∙◌, arith, true≢false}
use Rattle.std.specs.FinMap.{entries, len-entries}
use Rattle.std.proofs.lemmas.List.{take_all, length-take-le}
use Rattle.state_store.proofs.PlacedLaws.{entries_more}
use Rattle.state_store.proofs.placed_rows.PlacedRows.pour.Goals as goal

pub loop-place-preserved : goal.loop-place-preserved
loop-place-preserved c =
    let es = entries c.args.self.now.contents in
    let all = len-entries c.args.self.now.contents in
    let lt : c.loop-place.place < length es = omega (arith, all, c.len-place-end.ensures.count) in
    record {
      items = entries_more c.loop-place.rows.items c.push_entry.new.rows.items es c.loop-place.place c.row-row.result lt c.row-row.ensures c.in_ok-push_entry.ensures.rows c.loop-place.invariant.items;
      capacity = omega (arith, c.loop-place.invariant.capacity, c.push_entry.ensures.capacity);
    }

pub returns-in_err-push_entry-clause-room : goal.returns-in_err-push_entry-clause-room
returns-in_err-push_entry-clause-room c = λ h.
    let es = entries c.args.self.now.contents in
    let all = len-entries c.args.self.now.contents in
    let le : c.loop-place.place ≤ length es = omega (arith, all, c.len-place-end.ensures.count) in
    let count : length c.loop-place.rows.items ≡ c.loop-place.place = ap length c.loop-place.invariant.items ∙ length-take-le c.loop-place.place es le in
    let room : vec_len c.loop-place.rows < vec_capacity c.loop-place.rows = omega (arith, h, count, all, c.len-place-end.ensures.count, c.loop-place.invariant.capacity, c.loop-place.rows.ok.0) in
    absurd (true≢false (sym (c.push_entry.ensures.room room) ∙ ap is_ok c.in_err-push_entry.was))

pub returns-clause-rows : goal.returns-clause-rows
returns-clause-rows c =
    let es = entries c.args.self.now.contents in
    let all = len-entries c.args.self.now.contents in
    let past : length es ≤ c.loop-place.place = omega (arith, all, c.len-place-end.ensures.count) in
    c.loop-place.invariant.items ∙ take_all c.loop-place.place es past
