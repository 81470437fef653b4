use Rattle.std.proofs.Common.{[], is_some, sym, ap, ◌∙◌}
use Rattle.state_store.proofs.Entries.{map_get, find_here, find_gap, remove_here, others_none}
use Rattle.state_store.proofs.sorted_rows.del_sorted.Goals as goal

pub returns-in-Ok-clause-was : goal.returns-in-Ok-clause-was
returns-in-Ok-clause-was c =
    let es = c.args.rows.now.items in
    let place = rw c.deref.ensures.value at c.in-Ok.ensures.found in
    ap is_some (sym (map_get es c.args.key.now c.requires ∙ find_here es c.args.key.now c.in-Ok.i ([], []) place))

pub returns-in-Ok-clause-after : goal.returns-in-Ok-clause-after
returns-in-Ok-clause-after c =
    let place = rw c.deref.ensures.value at c.in-Ok.ensures.found in
    c.remove.ensures.items ∙ remove_here c.args.rows.now.items c.args.key.now c.in-Ok.i c.requires place

pub returns-in-Err-clause-was : goal.returns-in-Err-clause-was
returns-in-Err-clause-was c =
    let es = c.args.rows.now.items in
    let gap = rw c.deref.ensures.value at c.in-Err.ensures.absent in
    ap is_some (sym (map_get es c.args.key.now c.requires ∙ find_gap es c.args.key.now c.in-Err.field-0 c.requires gap))

pub returns-in-Err-clause-after : goal.returns-in-Err-clause-after
returns-in-Err-clause-after c =
    let es = c.args.rows.now.items in
    let gap = rw c.deref.ensures.value at c.in-Err.ensures.absent in
    sym (others_none es c.args.key.now (find_gap es c.args.key.now c.in-Err.field-0 c.requires gap))
