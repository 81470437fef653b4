use Rattle.std.proofs.Common.{sym, ◌∙◌}
use Rattle.std.specs.FinMap.{contains_key}
use Rattle.writeback_table.proofs.Joins.{known, swap}
use Rattle.writeback_table.proofs.write_back.write_row.Goals as goal

pub returns-in-Value-clause-known : goal.returns-in-Value-clause-known
returns-in-Value-clause-known c =
    let values = c.args.values.now.contents in
    let gone = c.args.gone.now.contents in
    let key = c.args.update.now.key in
    c.move_row.ensures.known ∙ swap (contains_key gone key) (contains_key values key) ∙ sym (known values gone key)

pub returns-in-Gone-clause-known : goal.returns-in-Gone-clause-known
returns-in-Gone-clause-known c =
    c.move_row-in-Gone.ensures.known ∙ sym (known c.args.values.now.contents c.args.gone.now.contents c.args.update.now.key)
