use Rattle.std.proofs.Common.{sym, ap, ◌∙◌}
use Rattle.state_store.specs.Store.{Contents}
use Rattle.state_store.proofs.Entries.{map_lacks}
use Rattle.state_store.proofs.stored.StoredObject.del.Goals as goal

-- a row that isn't there isn't removed
pub returns-clause-unchanged : goal.returns-clause-unchanged
returns-clause-unchanged c = λ none.
    let o = c.self.inside in
    let same = map_lacks o.rows.contents c.args.key.now (sym c.del.ensures.was ∙ none) in
    ap (λ (m : Contents). record { kind = o.kind; size = o.size; count = o.count; contents = m }) (ap (λ r. r.contents) c.del.ensures.after ∙ same) ∙ c.self.view_is
