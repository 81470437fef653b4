use Rattle.std.proofs.Common.{sym, ap, ◌∙◌}
use Rattle.std.specs.FinMap.{entries, entries-from_sorted}
use Rattle.state_store.specs.Bounded.{contents_in}
use Rattle.state_store.specs.Store.{key_cmp, rows_from}
use Rattle.state_store.proofs.kept_rows.KeptRows.list.Goals as goal

pub returns-in_ok-list_rows-in-None : goal.returns-in_ok-list_rows-in-None
returns-in_ok-list_rows-in-None c =
    let es = c.self.inside.sorted.items in
    c.plain.ensures ∙ c.in_ok-list_rows-in-None.ensures
    ∙ ap rows_from (c.deref.ensures.value ∙ sym (entries-from_sorted key_cmp es c.self.invariant.sorted))
    ∙ ap (λ q. rows_from (entries (contents_in q es))) (sym c.in-None.is) ∙ ap (λ b. rows_from (entries b.contents)) c.self.view_is
