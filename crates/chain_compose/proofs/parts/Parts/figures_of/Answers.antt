use Rattle.std.proofs.Common.{◌∙◌, List, drop, sym, ap}
use Rattle.element_lang.specs.declared.tree.Middlebox.{Middlebox}
use Rattle.element_lang.specs.declared.tree.Stmt.{Stmt}
use Rattle.element_lang.specs.Tree.{Tree}
use Rattle.element_lang.specs.View.{body_tree}
use Rattle.element_print.specs.Lengths.{capped}
use Rattle.element_chain.specs.Compose.{base_of}
use Rattle.chain_compose.specs.declared.figures.Figures.{Figures}
use Rattle.chain_compose.specs.Counts.{closing_count}
use Rattle.chain_compose.specs.Parts.{chain_of}
use Rattle.chain_compose.specs.Tallies.{has_wire, bare_count, sent_in}
use Rattle.chain_compose.proofs.Elements.{figures_told, scaled}
use Rattle.chain_compose.proofs.Trees.{tree_at}
use Rattle.chain_compose.proofs.RoutesAt.{own_wires}
use Rattle.chain_compose.proofs.parts.Parts.figures_of.Goals as goal

pub returns : goal.returns
returns c =
    let parts = c.args.self.now in
    let g = c.args.gauge in
    let e = c.args.element in
    let m = c.index-self-element.result in
    let ss = m.body.items in
    let objects = c.names_from-objects.result.now in
    let wired = c.has_wire-wired.result in
    let base = base_of (chain_of parts).elements e in
    let wires = own_wires parts e c.of.result.now c.requires.element_in_range c.of.ensures in
    let read = ap (λ (k : Middlebox). k.body.items) (sym c.index-self-element.is) in
    let f : Figures = record { own = c.bare_count-own.result; reads = c.saturating_sub-reads.result; sent = c.sent_in-sent.result; closing = c.closing_count-closing.result } in
    figures_told g (chain_of parts) e objects wired (body_tree ss) f c.bare_count-once.result
    (c.names_from-objects.ensures base c.base_of.ensures ∙ ap (drop base) c.requires.names)
    (c.has_wire-wired.ensures ∙ ap has_wire wires)
    (ap (λ (t : Tree). t.body) (sym (tree_at parts.classes.now e m c.requires.element_in_range c.index-self-element.is)))
    (c.bare_count-own.ensures ∙ ap (λ (ts : List Stmt). capped (bare_count g (scaled objects 0) wired (body_tree ts))) (c.deref.ensures.value ∙ read))
    (c.bare_count-once.ensures ∙ ap (λ (ts : List Stmt). capped (bare_count g (scaled objects 1) wired (body_tree ts))) (c.deref-2.ensures.value ∙ read))
    c.saturating_sub-reads.ensures
    (c.sent_in-sent.ensures ∙ ap (λ (ts : List Stmt). capped (sent_in g (body_tree ts))) (c.deref-3.ensures.value ∙ read))
    (c.closing_count-closing.ensures ∙ ap (λ (ts : List Stmt). closing_count g (body_tree ts)) (c.deref-4.ensures.value ∙ read))
