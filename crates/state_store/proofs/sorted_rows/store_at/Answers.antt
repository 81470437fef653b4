use Rattle.std.proofs.Common.{set, ap, ◌∙◌, []}
use Rattle.std.proofs.lemmas.List.{get_or_default}
use Rattle.state_store.proofs.Entries.{with_entry_here, with_entry_new}
use Rattle.state_store.proofs.sorted_rows.store_at.Goals as goal

pub returns-in-Ok-clause-after : goal.returns-in-Ok-clause-after
returns-in-Ok-clause-after c =
    let es = c.args.rows.now.items in
    let place = rw c.in-Ok.is at c.requires.found in
    let key = ap (λ e. e.0) (c.index_mut.ensures.value ∙ get_or_default es c.in-Ok.i c.index_mut.result.now ([], []) place.in_range) in
    ap (λ k. set es c.in-Ok.i (k, c.args.values.now)) key ∙ with_entry_here es c.args.key.now c.args.values.now c.in-Ok.i place

pub returns-in_ok-insert-in-Err-clause-after : goal.returns-in_ok-insert-in-Err-clause-after
returns-in_ok-insert-in-Err-clause-after c =
    let gap = rw c.in-Err.is at c.requires.absent in
    c.in_ok-insert-in-Err.ensures.items ∙ with_entry_new c.args.rows.now.items c.args.key.now c.args.values.now c.in-Err.i gap
