use Rattle.std.proofs.Common.{ap, ◌∙◌}
use Rattle.writeback_table.specs.Staging.{joined, count_in}
use Rattle.writeback_table.proofs.Joins.{stages, counted_same}
use Rattle.writeback_table.proofs.write_back.stage_row.Goals as goal

pub returns-clause-rows : goal.returns-clause-rows
returns-clause-rows c =
    let s = stages c.args.values.now c.args.gone.now c.args.count c.args.room c.args.update.now.key c.args.update.now.to c.requires.counted c.requires.not_joined in
    (λ i. joined (c.write_row-known.ensures.values i).contents (c.write_row-known.ensures.gone i).contents) ∙ s.rows

pub returns-clause-counted : goal.returns-clause-counted
returns-clause-counted c =
    let s = stages c.args.values.now c.args.gone.now c.args.count c.args.room c.args.update.now.key c.args.update.now.to c.requires.counted c.requires.not_joined in
    counted_same _ _ _ _ _ _ c.args.room c.write_row-known.ensures.values c.write_row-known.ensures.gone (c.count_in.ensures ∙ ap (λ k. count_in k c.args.count) c.write_row-known.ensures.known) s.counted
