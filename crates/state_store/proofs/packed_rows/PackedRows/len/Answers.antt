use Rattle.std.proofs.Common.{◌≤◌, sym, ap, subst, ◌∙◌}
use Rattle.std.specs.FinMap.{len}
use Rattle.state_store.specs.Fitted.{packing_of}
use Rattle.state_store.specs.Sizes.{table_of}
use Rattle.state_store.proofs.RowLaws.{len_of}
use Rattle.state_store.proofs.packed_rows.PackedRows.len.Goals as goal

pub returns-clause-count : goal.returns-clause-count
returns-clause-count c =
    let o = c.self.inside in
    c.len.ensures.count ∙ sym (len_of (packing_of o.keys o.values o.table) c.self.invariant.roomy (table_of o.table).rows c.self.invariant.packed) ∙ ap (λ f. len f.contents) c.self.view_is

pub returns-clause-within : goal.returns-clause-within
returns-clause-within c =
    let o = c.self.inside in
    let same = len_of (packing_of o.keys o.values o.table) c.self.invariant.roomy (table_of o.table).rows c.self.invariant.packed in
    subst (λ f. len f.contents ≤ f.capacity) c.self.view_is (subst (λ n. n ≤ (table_of o.table).capacity) (sym same) c.len.ensures.within)
