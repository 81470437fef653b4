use Rattle.std.proofs.Common.{◌≤◌, is_ok, vec_capacity, sym, ap, subst, ◌∙◌, true≢false}
use Rattle.std.specs.FinMap.{entries, len}
use Rattle.state_store.specs.Fitted.{packing_of}
use Rattle.state_store.specs.Sizes.{table_of}
use Rattle.state_store.proofs.PourLaws.{poured, as_many}
use Rattle.state_store.proofs.packed_rows.PackedRows.pour.Goals as goal

pub returns-in_err-list_slots-clause-room : goal.returns-in_err-list_slots-clause-room
returns-in_err-list_slots-clause-room c = λ h.
    let o = c.self.inside in
    let t = table_of o.table in
    let many = as_many (packing_of o.keys o.values o.table) t.rows t.slots c.self.invariant c.list_slots.ensures.laid ∙ ap (λ f. len f.contents) c.self.view_is in
    absurd (true≢false (sym (c.list_slots.ensures.room (subst (λ n. n ≤ vec_capacity c.args.rows.now) (sym many) h)) ∙ ap is_ok c.in_err-list_slots.was))

pub returns-clause-rows : goal.returns-clause-rows
returns-clause-rows c =
    let o = c.self.inside in
    let t = table_of o.table in
    poured (packing_of o.keys o.values o.table) t.rows t.slots c.list_slots.new.rows.items c.sort_unstable.new.self.items c.self.invariant c.list_slots.ensures.laid c.in_ok-list_slots.ensures.rows c.sort_unstable.ensures.permutation c.sort_unstable.ensures.sorted
    ∙ ap (λ f. entries f.contents) c.self.view_is
