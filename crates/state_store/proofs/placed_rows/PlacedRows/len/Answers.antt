use Rattle.std.proofs.Common.{◌≤◌, sym, ap, subst, ◌∙◌, arith}
use Rattle.std.specs.FinMap.{len}
use Rattle.state_store.specs.Fitted.{Fitted}
use Rattle.state_store.proofs.PlacedLaws.{placed_len}
use Rattle.state_store.proofs.placed_rows.PlacedRows.len.Goals as goal

pub returns-clause-count : goal.returns-clause-count
returns-clause-count c = c.len.ensures ∙ sym (placed_len c.self.inside.rows.lists) ∙ ap (λ f. len f.contents) c.self.view_is

pub returns-clause-within : goal.returns-clause-within
returns-clause-within c =
    let all = placed_len c.self.inside.rows.lists in
    subst (λ (f : Fitted). len f.contents ≤ f.capacity) c.self.view_is (omega arith)
