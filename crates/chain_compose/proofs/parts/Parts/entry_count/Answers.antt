use Rattle.std.proofs.Common.{◌∙◌, ◌*◌, ℕ, List, slice_index_or, refl, sym, ap, subst, arith}
use Rattle.std.proofs.lemmas.List.{length-map}
use Rattle.element_lang.specs.View.{tree}
use Rattle.element_chain.specs.declared.chain.Wire.{Wire}
use Rattle.element_print.specs.Lengths.{capped}
use Rattle.chain_compose.specs.Parts.{chain_of}
use Rattle.chain_compose.specs.Tallies.{after_count, told_end, AreEndings, AllFigures, no_figures}
use Rattle.chain_compose.proofs.Elements.{entry_told}
use Rattle.chain_compose.proofs.RoutesAt.{own_wires}
use Rattle.chain_compose.proofs.DeepCaps.{all_within}
use Rattle.chain_compose.proofs.parts.Parts.entry_count.Goals as goal

pub returns : goal.returns
returns c =
    let parts = c.args.self.now in
    let g = c.args.gauge in
    let chain = chain_of parts in
    let fs = c.args.figures.now in
    let es = c.args.endings.now in
    let f = slice_index_or fs 0 no_figures in
    let many = length-map parts.classes.now tree in
    let end = told_end g es in
    let wires = own_wires parts 0 c.of.result.now c.requires.nonempty c.of.ensures in
    entry_told g chain fs es f c.saturating_mul-read.result c.saturating_mul-tests.result c.saturating_add-own.result c.saturating_add.result
    (all_within parts c.requires.within)
    (subst (λ (n : ℕ). AreEndings g chain n es) (sym many) c.requires.endings)
    (subst (λ (n : ℕ). AllFigures g chain n fs) (sym many) c.requires.figures)
    (omega (arith, c.requires.nonempty, many))
    refl
    (c.saturating_mul-read.ensures ∙ ap (λ (k : ℕ). capped (f.reads * k)) c.field_length.ensures)
    (c.saturating_mul-tests.ensures ∙ ap (λ (k : ℕ). capped (f.sent * k)) (c.after_count-after.ensures ∙ ap (λ (ws : List Wire). capped (after_count g end ws)) wires))
    c.saturating_add-own.ensures c.saturating_add.ensures
