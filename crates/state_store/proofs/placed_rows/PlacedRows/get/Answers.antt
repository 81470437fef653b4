use Rattle.std.proofs.Common.{◌<◌, [], length, get_or, refl, sym, ap, ◌∙◌, arith}
use Rattle.std.specs.FinMap.{entries, get}
use Rattle.state_store.specs.Store.{row_of}
use Rattle.state_store.proofs.PlacedLaws.{nowhere, placed_found}
use Rattle.state_store.proofs.placed_rows.PlacedRows.get.Goals as goal

pub row-requires : goal.row-requires
row-requires c =
    let room = ap (λ f. f.capacity) c.self.view_is in
    omega (arith, room, c.in-Some.ensures.within, c.len.ensures)

pub returns-in-Some : goal.returns-in-Some
returns-in-Some c =
    let o = c.self.inside in
    let p = c.in-Some.place in
    let lt : p < length o.rows.lists = omega (arith, c.in-Some.ensures.within, c.len.ensures) in
    placed_found o.rows.lists p c.args.key.now c.row.result c.in-Some.ensures.place lt
    (c.row.ensures ∙ ap (λ f. row_of (get_or (entries f.contents) p ([], []))) (sym c.self.view_is))
    ∙ ap (λ f. get f.contents c.args.key.now) c.self.view_is

pub returns-in-None : goal.returns-in-None
returns-in-None c =
    let o = c.self.inside in
    sym (nowhere o.rows.lists c.args.key.now (λ k e. let past = c.in-None.ensures.none refl k e in omega (arith, past, c.len.ensures)))
    ∙ ap (λ f. get f.contents c.args.key.now) c.self.view_is
