use Rattle.std.proofs.Common.{ap, ◌∙◌}
use Rattle.writeback_table.specs.Staging.{joined}
use Rattle.writeback_table.proofs.Joins.{first_counted, no_rows}
use Rattle.writeback_table.proofs.write_back.WriteBack.new.Goals as goal

pub invariant_of-result : goal.invariant_of-result
invariant_of-result c =
    let v = c.in_ok-values.ensures ∙ c.map_of_widths-rows.ensures in
    let g = c.in_ok-gone.ensures ∙ c.map_of_widths-rows.ensures in
    first_counted c.in_ok-values.values c.in_ok-gone.gone c.args.room (ap (λ o. o.kind) v) (ap (λ o. o.kind) g) (ap (λ o. o.size) v) (ap (λ o. o.size) g) (ap (λ o. o.contents) v) (ap (λ o. o.contents) g)

pub returns : goal.returns
returns c =
    let v = c.in_ok-values.ensures ∙ c.map_of_widths-rows.ensures in
    let g = c.in_ok-gone.ensures ∙ c.map_of_widths-rows.ensures in
    let none = (λ i. joined (v i).contents (g i).contents) ∙ no_rows in
    λ i. record { rows = none i; room = c.args.room }
