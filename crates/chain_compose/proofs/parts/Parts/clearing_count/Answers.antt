use Rattle.std.proofs.Common.{◌∙◌, ℕ, List, false, ap}
use Rattle.element_lang.specs.declared.tree.Stmt.{Stmt}
use Rattle.element_lang.specs.View.{body_tree}
use Rattle.element_print.specs.Lengths.{capped}
use Rattle.element_chain.specs.Compose.{followed, clearing}
use Rattle.chain_compose.specs.Tallies.{bare_count}
use Rattle.chain_compose.proofs.Elements.{clearing_told, scaled}
use Rattle.chain_compose.proofs.parts.Parts.clearing_count.Goals as goal

pub returns : goal.returns
returns c =
    let parts = c.args.self.now in
    let names = c.args.names.now in
    let b = body_tree c.deref.result.now in
    clearing_told c.args.gauge parts names b c.bare_count-counted.result c.requires
    (ap body_tree c.deref.ensures.value ∙ c.in_ok-put_clearing.ensures ∙ ap (λ (ss : List Stmt). followed (body_tree ss) (clearing parts.cleared.now)) c.new-body.ensures.items)
    (c.bare_count-counted.ensures ∙ ap (λ (port : ℕ). capped (bare_count c.args.gauge (scaled names port) false b)) c.field_length.ensures)
