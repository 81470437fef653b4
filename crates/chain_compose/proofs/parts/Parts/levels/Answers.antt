use Rattle.std.proofs.Common.{◌∙◌, ◌+◌, ℕ, List, [], ◌∷◌, ◌++◌, sym, ap, subst, arith}
use Rattle.std.proofs.lemmas.List.{length-map}
use Rattle.element_lang.specs.View.{tree}
use Rattle.chain_compose.specs.declared.figures.Ending.{Ending}
use Rattle.chain_compose.specs.Parts.{chain_of}
use Rattle.chain_compose.specs.Tallies.{AreEndings}
use Rattle.chain_compose.proofs.Elements.{more_again, no_levels, level_pushed}
use Rattle.chain_compose.proofs.Inputs.{levels_told}
use Rattle.chain_compose.proofs.parts.Parts.levels.Goals as goal

pub loop-init : goal.loop-init
loop-init c =
    let g = c.args.gauge in
    let chain = chain_of c.args.self.now in
    let row = c.in_ok-first.first.items in
    let ends : AreEndings g chain 0 c.in_ok-endings.endings.items = c.in_ok-endings.ensures in
    record {
      endings = ends;
      levels =
          level_pushed g chain 0 [] c.push.new.self row (c.in_ok-push.ensures ∙ ap (λ (rows : List (List ℕ)). rows ++ row ∷ []) c.new-levels.ensures) (no_levels g chain)
          (c.in_ok-first.ensures 0 (subst (λ (es : List Ending). AreEndings g chain 0 es) (sym c.deref-3.ensures.value) ends));
    }

pub loop-preserved : goal.loop-preserved
loop-preserved c =
    let g = c.args.gauge in
    let chain = chain_of c.args.self.now in
    let n = c.loop.counter + 1 in
    let ends : AreEndings g chain n c.in_ok-endings-2.endings.items =
    more_again g chain c.loop.counter c.loop.endings.items c.deref-in-loop-2.result.now c.in_ok-endings-2.endings.items c.deref-in-loop-2.ensures.value c.loop.invariant.endings c.in_ok-endings-2.ensures in
    record {
      endings = ends;
      levels =
          level_pushed g chain n c.loop.levels c.push-in-loop.new.self c.in_ok-next.next.items c.in_ok-push-2.ensures c.loop.invariant.levels
          (c.in_ok-next.ensures n (subst (λ (es : List Ending). AreEndings g chain n es) (sym c.deref-in-loop-3.ensures.value) ends));
    }

pub returns : goal.returns
returns c = λ n e input level there.
    let parts = c.args.self.now in
    levels_told c.args.gauge c.requires.unread (chain_of parts) (c.loop.counter + 1) c.loop.levels c.loop.invariant.levels n e input
    (omega (arith, level, c.loop-test.false, c.loop.auto.counter-end)) (omega (arith, there, length-map parts.classes.now tree))
