use Rattle.std.proofs.Common.{◌∙◌, sym, ap}
use Rattle.element_lang.specs.declared.tree.Middlebox.{Middlebox}
use Rattle.element_lang.specs.Tree.{Tree}
use Rattle.element_lang.specs.View.{body_tree}
use Rattle.chain_compose.specs.Parts.{chain_of}
use Rattle.chain_compose.proofs.DeepCaps.{own_told}
use Rattle.chain_compose.proofs.Trees.{tree_at}
use Rattle.chain_compose.proofs.RoutesAt.{own_wires}
use Rattle.chain_compose.proofs.parts.Parts.own.Goals as goal

pub returns : goal.returns
returns c =
    let parts = c.args.self.now in
    let e = c.args.element in
    let m = c.index-self-element.result in
    own_told (chain_of parts) e c.of.result.now c.has_wires-wired.result (body_tree c.as_slice-body.result.now) _ _
    (own_wires parts e c.of.result.now c.requires.element_in_range c.of.ensures)
    c.has_wires-wired.ensures
    (ap body_tree (c.as_slice-body.ensures.value ∙ ap (λ (k : Middlebox). k.body.items) (sym c.index-self-element.is)) ∙ ap (λ (t : Tree). t.body) (sym (tree_at parts.classes.now e m c.requires.element_in_range c.index-self-element.is)))
    c.own_in.ensures c.level_in.ensures
