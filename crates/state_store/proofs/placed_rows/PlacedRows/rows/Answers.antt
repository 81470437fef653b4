use Rattle.std.proofs.Common.{◌<◌, ◌≤◌, [], ◌∷◌, length, get_or, refl, ap, ◌∙◌, arith}
use Rattle.std.specs.FinMap.{entries, len-entries}
use Rattle.state_store.specs.Store.{row_of}
use Rattle.state_store.proofs.PlacedLaws.{row_placed, rows_more, rows_all}
use Rattle.state_store.proofs.placed_rows.PlacedRows.rows.Goals as goal

pub at-requires : goal.at-requires
at-requires c =
    let room = ap (λ f. f.capacity) c.self.view_is in
    omega (arith, room, c.len-count.ensures.count, c.len-count.ensures.within)

pub push_parts-requires-clause-values : goal.push_parts-requires-clause-values
push_parts-requires-clause-values c = omega (arith, c.at.ensures.width, c.self.invariant.1)

pub loop-place-preserved : goal.loop-place-preserved
loop-place-preserved c =
    let es = entries c.args.self.now.contents in
    let all = len-entries c.args.self.now.contents in
    let p = c.loop-place.place in
    let lt : p < length es = omega (arith, all, c.len-count.ensures.count) in
    let row = row_of (p ∷ [], c.at.result.now) in
    let is = row_placed c.self.inside.rows.lists p (p ∷ []) c.at.result.now refl c.at.ensures.list
    ∙ ap (λ f. row_of (get_or (entries f.contents) p ([], []))) c.self.view_is in
    rows_more c.loop-place.rows c.push_parts.new.self _ es p row lt is c.in_ok-push_parts.ensures.ok c.loop-place.invariant

pub returns : goal.returns
returns c =
    let es = entries c.args.self.now.contents in
    let all = len-entries c.args.self.now.contents in
    let past : length es ≤ c.loop-place.place = omega (arith, all, c.len-count.ensures.count) in
    rows_all c.loop-place.rows _ es c.loop-place.place past c.loop-place.invariant
