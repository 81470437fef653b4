use Rattle.std.proofs.Common.{sym, ap, ap₂, ◌∙◌, is_some}
use Rattle.std.specs.FinMap.{remove, contains_key}
use Rattle.state_store.specs.Fitted.{Fitted, packing_of}
use Rattle.state_store.specs.Kept.{have_widths}
use Rattle.state_store.specs.Packing.{packed}
use Rattle.state_store.specs.Sizes.{table_of, key_words}
use Rattle.state_store.proofs.FittedLaws.{some_packed, none_packed, as_words, look_misfit, there_same, del_misfit, del_holds, del_after, same_packing}
use Rattle.state_store.proofs.packed_rows.PackedRows.del.Goals as goal

pub returns-in_default-clause-was : goal.returns-in_default-clause-was
returns-in_default-clause-was c =
    let o = c.self.inside in
    let lists = ap₂ have_widths c.as_slice.ensures c.as_slice-2.ensures in
    let misfit = none_packed _ _ (sym c.in_default.is ∙ c.packed.ensures.value) in
    ap is_some (look_misfit (packing_of o.keys o.values o.table) (table_of o.table).rows c.args.key.now c.self.invariant (sym lists ∙ misfit)) ∙ ap (λ f. contains_key f.contents c.args.key.now) c.self.view_is

pub returns-in_default-clause-after : goal.returns-in_default-clause-after
returns-in_default-clause-after c =
    let o = c.self.inside in
    let lists = ap₂ have_widths c.as_slice.ensures c.as_slice-2.ensures in
    let misfit = none_packed _ _ (sym c.in_default.is ∙ c.packed.ensures.value) in
    sym c.self.view_is ∙ del_misfit (packing_of o.keys o.values o.table) (table_of o.table).capacity (table_of o.table).rows c.args.key.now c.self.invariant (sym lists ∙ misfit)
    ∙ ap (λ (f : Fitted). record f { contents = remove f.contents c.args.key.now }) c.self.view_is

pub invariant_of-self : goal.invariant_of-self
invariant_of-self c =
    let o = c.self.inside in
    let p = packing_of o.keys o.values in
    del_holds (p o.table) (p c.remove.new.any) (table_of o.table).rows (table_of c.remove.new.any).rows c.args.key.now _ c.self.invariant (same_packing o.keys o.values o.table c.remove.new.any c.remove.ensures.keys c.remove.ensures.values) c.remove.ensures.rows

pub returns-clause-was : goal.returns-clause-was
returns-clause-was c =
    let o = c.self.inside in
    let p = packing_of o.keys o.values o.table in
    let lists = ap₂ have_widths c.as_slice.ensures c.as_slice-2.ensures in
    let fit = some_packed _ _ _ (sym c.in-Some.is ∙ c.packed.ensures.value) in
    let whole = fit.1 ∙ ap₂ (λ ws ns. packed c.key_bits.result ws ns) c.as_slice.ensures c.as_slice-2.ensures in
    let word = as_words p.key_words c.key_bits.result p.keys c.args.key.now c.in-Some.whole c.key_bits.ensures.value whole in
    c.remove.ensures.was ∙ ap (λ k. contains_key (table_of o.table).rows k) word ∙ sym (there_same p (table_of o.table).rows c.args.key.now c.self.invariant (sym lists ∙ fit.0))
    ∙ ap (λ f. contains_key f.contents c.args.key.now) c.self.view_is

pub returns-clause-after : goal.returns-clause-after
returns-clause-after c =
    let o = c.self.inside in
    let p = packing_of o.keys o.values in
    let t = o.table in
    let lists = ap₂ have_widths c.as_slice.ensures c.as_slice-2.ensures in
    let fit = some_packed _ _ _ (sym c.in-Some.is ∙ c.packed.ensures.value) in
    let whole = fit.1 ∙ ap₂ (λ ws ns. packed c.key_bits.result ws ns) c.as_slice.ensures c.as_slice-2.ensures in
    let word = as_words (key_words t) c.key_bits.result o.keys c.args.key.now c.in-Some.whole c.key_bits.ensures.value whole in
    del_after (p t) (p c.remove.new.any) (table_of t).capacity (table_of c.remove.new.any).capacity (table_of t).rows (table_of c.remove.new.any).rows c.args.key.now c.self.invariant (sym lists ∙ fit.0)
    (same_packing o.keys o.values t c.remove.new.any c.remove.ensures.keys c.remove.ensures.values) c.remove.ensures.capacity (c.remove.ensures.rows ∙ ap (remove (table_of t).rows) word)
    ∙ ap (λ (f : Fitted). record f { contents = remove f.contents c.args.key.now }) c.self.view_is
