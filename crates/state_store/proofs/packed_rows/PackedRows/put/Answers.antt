use Rattle.std.proofs.Common.{cond, sym, ap, ap₂, ◌∙◌}
use Rattle.std.specs.FinMap.{insert}
use Rattle.slot_table.specs.Table.{is_table_full}
use Rattle.slot_table.specs.declared.table.Slot.TheVariants as slot
use Rattle.state_store.specs.Fitted.{packing_of, keep_answer, kept_row}
use Rattle.state_store.specs.Kept.{have_widths}
use Rattle.state_store.specs.Packing.{packed}
use Rattle.state_store.specs.Sizes.{table_of, key_words, value_words}
use Rattle.state_store.proofs.FittedLaws.{some_packed, as_words, put_answer, put_holds, put_after, same_packing}
use Rattle.state_store.proofs.packed_rows.PackedRows.put.Goals as goal

pub invariant_of-self : goal.invariant_of-self
invariant_of-self c =
    let o = c.self.inside in
    let t = o.table in
    let p = packing_of o.keys o.values in
    let lists = ap₂ have_widths c.as_slice.ensures c.as_slice-2.ensures in
    let lists' = ap₂ have_widths c.as_slice-3.ensures c.as_slice-4.ensures in
    let fit = some_packed _ _ _ (sym c.in-Some.is ∙ c.packed.ensures.value) in
    let fit' = some_packed _ _ _ (sym c.in-Some-packed.is ∙ c.packed-2.ensures.value) in
    let whole = fit.1 ∙ ap₂ (λ ws ns. packed c.key_bits.result ws ns) c.as_slice.ensures c.as_slice-2.ensures in
    let whole' = fit'.1 ∙ ap₂ (λ ws ns. packed c.value_bits.result ws ns) c.as_slice-3.ensures c.as_slice-4.ensures in
    let word = as_words (key_words t) c.key_bits.result o.keys c.args.key.now c.in-Some.whole c.key_bits.ensures.value whole in
    let word' = as_words (value_words t) c.value_bits.result o.values c.args.values.now c.in-Some-packed.value c.value_bits.ensures.value whole' in
    put_holds (p t) (p c.insert.new.any) _ (table_of t).rows (table_of c.insert.new.any).rows c.args.key.now c.args.values.now c.self.invariant (sym lists ∙ fit.0) (sym lists' ∙ fit'.0)
    (same_packing o.keys o.values t c.insert.new.any c.insert.ensures.keys c.insert.ensures.values)
    (c.insert.ensures.rows ∙ ap₂ (λ k v. cond (is_table_full (table_of t) k) (table_of t).rows (insert (table_of t).rows k v)) word word')

pub returns-clause-answer : goal.returns-clause-answer
returns-clause-answer c =
    let o = c.self.inside in
    let t = o.table in
    let lists = ap₂ have_widths c.as_slice.ensures c.as_slice-2.ensures in
    let lists' = ap₂ have_widths c.as_slice-3.ensures c.as_slice-4.ensures in
    let fit = some_packed _ _ _ (sym c.in-Some.is ∙ c.packed.ensures.value) in
    let fit' = some_packed _ _ _ (sym c.in-Some-packed.is ∙ c.packed-2.ensures.value) in
    let whole = fit.1 ∙ ap₂ (λ ws ns. packed c.key_bits.result ws ns) c.as_slice.ensures c.as_slice-2.ensures in
    let word = as_words (key_words t) c.key_bits.result o.keys c.args.key.now c.in-Some.whole c.key_bits.ensures.value whole in
    put_answer (packing_of o.keys o.values t) (table_of t) c.args.key.now c.args.values.now c.insert.result c.answer_to.result c.self.invariant (sym lists ∙ fit.0) (sym lists' ∙ fit'.0)
    (c.insert.ensures.answer ∙ ap (λ k. cond (is_table_full (table_of t) k) slot.Full slot.Stored) word) c.answer_to.ensures
    ∙ ap (λ f. keep_answer f c.args.key.now c.args.values.now) c.self.view_is

pub returns-clause-after : goal.returns-clause-after
returns-clause-after c =
    let o = c.self.inside in
    let t = o.table in
    let p = packing_of o.keys o.values in
    let lists = ap₂ have_widths c.as_slice.ensures c.as_slice-2.ensures in
    let lists' = ap₂ have_widths c.as_slice-3.ensures c.as_slice-4.ensures in
    let fit = some_packed _ _ _ (sym c.in-Some.is ∙ c.packed.ensures.value) in
    let fit' = some_packed _ _ _ (sym c.in-Some-packed.is ∙ c.packed-2.ensures.value) in
    let whole = fit.1 ∙ ap₂ (λ ws ns. packed c.key_bits.result ws ns) c.as_slice.ensures c.as_slice-2.ensures in
    let whole' = fit'.1 ∙ ap₂ (λ ws ns. packed c.value_bits.result ws ns) c.as_slice-3.ensures c.as_slice-4.ensures in
    let word = as_words (key_words t) c.key_bits.result o.keys c.args.key.now c.in-Some.whole c.key_bits.ensures.value whole in
    let word' = as_words (value_words t) c.value_bits.result o.values c.args.values.now c.in-Some-packed.value c.value_bits.ensures.value whole' in
    put_after (p t) (p c.insert.new.any) (table_of t) (table_of c.insert.new.any).capacity (table_of c.insert.new.any).rows c.args.key.now c.args.values.now c.self.invariant (sym lists ∙ fit.0) (sym lists' ∙ fit'.0)
    (same_packing o.keys o.values t c.insert.new.any c.insert.ensures.keys c.insert.ensures.values) c.insert.ensures.capacity
    (c.insert.ensures.rows ∙ ap₂ (λ k v. cond (is_table_full (table_of t) k) (table_of t).rows (insert (table_of t).rows k v)) word word')
    ∙ ap (λ f. kept_row f c.args.key.now c.args.values.now) c.self.view_is
