use Rattle.std.proofs.Common.{[], Some, get_or, sym, ap, ◌∙◌, arith}
use Rattle.std.specs.FinMap.{entries}
use Rattle.state_store.specs.Store.{row_of}
use Rattle.state_store.proofs.PlacedLaws.{row_placed}
use Rattle.state_store.proofs.placed_rows.PlacedRows.row.Goals as goal

pub at-requires : goal.at-requires
at-requires c =
    let room = ap (λ f. f.capacity) c.self.view_is in
    omega (arith, room, c.requires)

pub values_of-requires : goal.values_of-requires
values_of-requires c = omega (arith, c.at.ensures.width, c.self.invariant.1)

pub returns : goal.returns
returns c =
    let p = c.args.place in
    row_placed c.self.inside.rows.lists p c.single.result c.values_of.result c.single.ensures
    (c.at.ensures.list ∙ ap (λ x. Some x) (sym c.values_of.ensures))
    ∙ ap (λ f. row_of (get_or (entries f.contents) p ([], []))) c.self.view_is
