use Rattle.std.proofs.Common.{◌≡◌, ◌∙◌, ℕ, List, length, max, ap, subst, arith}
use Rattle.element_print.specs.Lengths.{capped}
use Rattle.chain_compose.specs.Depths.{element_depth}
use Rattle.chain_compose.specs.SendLevels.{AreDepths, told_depth}
use Rattle.chain_compose.specs.Parts.{chain_of}
use Rattle.chain_compose.proofs.DeepCaps.{whole_told}
use Rattle.chain_compose.proofs.parts.Parts.depth.Goals as goal

pub returns : goal.returns
returns c =
    let parts = c.args.self.now in
    let all : c.loop.counter ≡ length parts.classes.now = omega (arith, c.loop.auto.counter-end, c.loop-test.false) in
    whole_told parts c.loop.depths.items c.all_decls_depth.result c.element_depth-body.result _ c.requires.within
    (subst (λ (n : ℕ). AreDepths (chain_of parts) n c.loop.depths.items) all c.loop.invariant)
    c.all_decls_depth.ensures
    (c.element_depth-body.ensures ∙ ap (λ (ds : List ℕ). capped (element_depth (chain_of parts) (told_depth ds) 0)) c.deref-2.ensures.value)
    (c.deeper.ensures ∙ ap (max c.all_decls_depth.result) c.saturating_add.ensures)
