use Rattle.std.proofs.Common.{◌≤◌, ◌+◌, length, drop, sym, ap, ◌∙◌, arith}
use Rattle.std.proofs.lemmas.List.{drop_all}
use Rattle.state_store.specs.Store.{Object, with_rows}
use Rattle.state_store.proofs.stored.StoredObject.set_rows.Goals as goal

pub loop-place-preserved : goal.loop-place-preserved
loop-place-preserved c =
    let p = c.loop-place.place in
    let rows = c.args.rows.now in
    let o = c.loop-place.self in
    ap (λ (x : Object). record x { contents = with_rows (drop (p + 1) rows) x.contents }) c.in_ok-set.ensures
    ∙ ap (λ l. record o { contents = with_rows l o.contents }) (sym c.at-row.ensures.rest) ∙ c.loop-place.invariant

pub returns : goal.returns
returns c =
    let p = c.loop-place.place in
    let rows = c.args.rows.now in
    let o = c.loop-place.self in
    let past : length rows ≤ p = omega arith in
    ap (λ l. record o { contents = with_rows l o.contents }) (sym (drop_all p rows past)) ∙ c.loop-place.invariant
