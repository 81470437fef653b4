use Rattle.std.proofs.Common.{sym, ap, ap₂, ◌∙◌, option_map}
use Rattle.std.specs.FinMap.{get}
use Rattle.state_store.specs.Fitted.{packing_of}
use Rattle.state_store.specs.Kept.{have_widths}
use Rattle.state_store.specs.Packing.{number}
use Rattle.state_store.specs.Sizes.{table_of}
use Rattle.state_store.proofs.FittedLaws.{some_packed, none_packed, as_words, look_some, look_none, look_misfit}
use Rattle.state_store.proofs.packed_rows.PackedRows.get.Goals as goal

pub returns-in_default : goal.returns-in_default
returns-in_default c =
    let o = c.self.inside in
    let lists = ap₂ have_widths c.as_slice.ensures c.as_slice-2.ensures in
    let misfit = none_packed _ _ (sym c.in_default.is ∙ c.packed.ensures.value) in
    look_misfit (packing_of o.keys o.values o.table) (table_of o.table).rows c.args.key.now c.self.invariant (sym lists ∙ misfit) ∙ ap (λ f. get f.contents c.args.key.now) c.self.view_is

pub returns-in-Some-look : goal.returns-in-Some-look
returns-in-Some-look c =
    let o = c.self.inside in
    let p = packing_of o.keys o.values o.table in
    let lists = ap₂ have_widths c.as_slice.ensures c.as_slice-2.ensures in
    let fit = some_packed _ _ _ (sym c.in-Some.is ∙ c.packed.ensures.value) in
    let whole = fit.1 ∙ ap₂ (λ ws ns. Rattle.state_store.specs.Packing.packed c.key_bits.result ws ns) c.as_slice.ensures c.as_slice-2.ensures in
    let word = as_words p.key_words c.key_bits.result p.keys c.args.key.now c.in-Some.whole c.key_bits.ensures.value whole in
    let look = sym c.in-Some-look.is ∙ c.look.ensures.value ∙ ap (λ k. option_map number (get (table_of o.table).rows k)) word in
    look_some p (table_of o.table).rows c.args.key.now c.parts.result c.value_bits.result c.in-Some-look.value c.self.invariant (sym lists ∙ fit.0) c.value_bits.ensures.value look c.parts.ensures
    ∙ ap (λ f. get f.contents c.args.key.now) c.self.view_is

pub returns-in-None : goal.returns-in-None
returns-in-None c =
    let o = c.self.inside in
    let p = packing_of o.keys o.values o.table in
    let lists = ap₂ have_widths c.as_slice.ensures c.as_slice-2.ensures in
    let fit = some_packed _ _ _ (sym c.in-Some.is ∙ c.packed.ensures.value) in
    let whole = fit.1 ∙ ap₂ (λ ws ns. Rattle.state_store.specs.Packing.packed c.key_bits.result ws ns) c.as_slice.ensures c.as_slice-2.ensures in
    let word = as_words p.key_words c.key_bits.result p.keys c.args.key.now c.in-Some.whole c.key_bits.ensures.value whole in
    let look = sym c.in-None.is ∙ c.look.ensures.value ∙ ap (λ k. option_map number (get (table_of o.table).rows k)) word in
    look_none p (table_of o.table).rows c.args.key.now c.self.invariant (sym lists ∙ fit.0) look
    ∙ ap (λ f. get f.contents c.args.key.now) c.self.view_is
