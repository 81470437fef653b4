use Rattle.std.proofs.Common.{◌∙◌, ap, List}
use Rattle.element_lang.specs.View.{body_tree}
use Rattle.element_lang.specs.declared.tree.Stmt.{Stmt}
use Rattle.element_chain.specs.Compose.{followed, clearing}
use Rattle.chain_compose.proofs.DeepCaps.{clearing_told}
use Rattle.chain_compose.proofs.parts.Parts.clearing_depth.Goals as goal

pub returns : goal.returns
returns c =
    clearing_told c.args.self.now (body_tree c.deref.result.now) _
    (ap body_tree c.deref.ensures.value ∙ c.in_ok-put_clearing.ensures ∙ ap (λ (ss : List Stmt). followed (body_tree ss) (clearing c.args.self.now.cleared.now)) c.new-made.ensures.items)
    c.own_in.ensures
