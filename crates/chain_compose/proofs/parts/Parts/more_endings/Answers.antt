use Rattle.std.proofs.Common.{ℕ, slice_index_or, sym, subst, arith}
use Rattle.std.proofs.lemmas.List.{length-map}
use Rattle.element_lang.specs.View.{tree}
use Rattle.chain_compose.specs.declared.figures.Ending.{Ending}
use Rattle.chain_compose.specs.Parts.{chain_of}
use Rattle.chain_compose.specs.Tallies.{AllFigures, IsNext, no_figures, no_ending}
use Rattle.chain_compose.proofs.Elements.{more_told}
use Rattle.chain_compose.proofs.Pushed.{one_longer, each_pushed}
use Rattle.chain_compose.proofs.DeepCaps.{all_within}
use Rattle.chain_compose.proofs.parts.Parts.more_endings.Goals as goal

pub loop-element-preserved : goal.loop-element-preserved
loop-element-preserved c =
    let g = c.args.gauge in
    let chain = chain_of c.args.self.now in
    let es = c.args.endings.now in
    let fs = c.args.figures.now in
    let e = c.loop-element.element in
    let holds = λ (i : ℕ) (x : Ending). IsNext g chain es i (slice_index_or fs i no_figures) x in
    let had = c.loop-element.made.items in
    record {
      count = one_longer Ending had _ c.next_ending.result e c.in_ok-push.ensures.items c.loop-element.invariant.count;
      each = each_pushed Ending holds had _ c.next_ending.result no_ending e c.in_ok-push.ensures.items c.loop-element.invariant.count c.loop-element.invariant.each c.next_ending.ensures;
    }

pub returns : goal.returns
returns c = λ n are.
    let parts = c.args.self.now in
    let chain = chain_of parts in
    let many = length-map parts.classes.now tree in
    more_told c.args.gauge chain n c.args.figures.now c.args.endings.now c.loop-element.made.items (all_within parts c.requires.within) are
    (subst (λ (k : ℕ). AllFigures c.args.gauge chain k c.args.figures.now) (sym many) c.requires.figures)
    (omega (arith, many, c.requires.figures.count, c.loop-element.invariant.count, c.loop-element-test.false, c.loop-element.auto.element-end))
    (λ e there. c.loop-element.invariant.each e (omega (arith, there, many, c.requires.figures.count, c.loop-element-test.false)))
