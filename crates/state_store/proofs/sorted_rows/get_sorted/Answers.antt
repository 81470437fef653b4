use Rattle.std.proofs.Common.{sym, ◌∙◌}
use Rattle.state_store.proofs.Entries.{map_get, find_here, find_gap}
use Rattle.state_store.proofs.sorted_rows.get_sorted.Goals as goal

pub returns-in-Ok : goal.returns-in-Ok
returns-in-Ok c =
    let es = c.args.rows.now in
    let key = c.args.key.now in
    sym (map_get es key c.requires ∙ find_here es key c.in-Ok.i c.index-rows-i.result c.in-Ok.ensures.found)

pub returns-in-Err : goal.returns-in-Err
returns-in-Err c =
    let es = c.args.rows.now in
    let key = c.args.key.now in
    sym (map_get es key c.requires ∙ find_gap es key c.in-Err.field-0 c.requires c.in-Err.ensures.absent)
