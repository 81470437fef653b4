use Rattle.std.proofs.Common.{slice_get, Some, sym, ap, ◌∙◌, arith}
use Rattle.std.proofs.lemmas.List.{length-map}
use Rattle.state_store.specs.Shapes.{row_of_list, rows_in}
use Rattle.state_store.specs.Store.{row_of}
use Rattle.state_store.proofs.ShapeLaws.{got_map, rest_from}
use Rattle.state_store.proofs.rows.parts_in.Goals as goal

pub at-requires : goal.at-requires
at-requires c =
    let all = length-map c.in-Even.lists.lists (row_of_list c.in-Even.keys) in
    let within = rw c.in-Even.is at c.requires.within in
    omega (arith, all, within)

pub returns-in-Even-clause-row : goal.returns-in-Even-clause-row
returns-in-Even-clause-row c =
    let p = c.args.place in
    ap (λ f. slice_get (rows_in f) p) c.in-Even.is
    ∙ got_map c.in-Even.keys c.in-Even.lists.lists p c.at.result.now c.at.ensures.list
    ∙ (λ i. Some (row_of (sym c.split_at.ensures.front i, sym c.split_at.ensures.back i)))

pub returns-in-Even-clause-rest : goal.returns-in-Even-clause-rest
returns-in-Even-clause-rest c =
    let p = c.args.place in
    rest_from (rows_in c.args.form.now) p (row_of (c.split_at.result.0.now, c.split_at.result.1.now))
    (ap (λ f. slice_get (rows_in f) p) c.in-Even.is
    ∙ got_map c.in-Even.keys c.in-Even.lists.lists p c.at.result.now c.at.ensures.list
    ∙ (λ i. Some (row_of (sym c.split_at.ensures.front i, sym c.split_at.ensures.back i))))
