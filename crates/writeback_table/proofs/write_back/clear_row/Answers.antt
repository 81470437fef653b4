use Rattle.std.proofs.Common.{ap, sym, ◌∙◌}
use Rattle.writeback_table.specs.Staging.{joined, count_out}
use Rattle.writeback_table.proofs.Joins.{clears, clear_both, counted_same, known}
use Rattle.writeback_table.proofs.write_back.clear_row.Goals as goal

pub returns-clause-rows : goal.returns-clause-rows
returns-clause-rows c =
    (λ i. joined (c.remove_row-known.ensures.values i).contents (c.remove_row-known.ensures.gone i).contents) ∙ clear_both c.args.values.now.contents c.args.gone.now.contents c.args.key.now

pub returns-clause-counted : goal.returns-clause-counted
returns-clause-counted c =
    let was_known = c.remove_row-known.ensures.known ∙ sym (known c.args.values.now.contents c.args.gone.now.contents c.args.key.now) in
    counted_same _ _ _ _ _ _ c.args.room c.remove_row-known.ensures.values c.remove_row-known.ensures.gone (c.count_out.ensures ∙ ap (λ k. count_out k c.args.count) was_known)
    (clears c.args.values.now c.args.gone.now c.args.count c.args.room c.args.key.now c.requires.counted)
