use Rattle.std.proofs.Common.{ℕ}
use Rattle.chain_compose.specs.declared.figures.Figures.{Figures}
use Rattle.chain_compose.specs.Parts.{chain_of}
use Rattle.chain_compose.specs.Tallies.{AreFigures, no_figures}
use Rattle.chain_compose.proofs.Pushed.{one_longer, each_pushed}
use Rattle.chain_compose.proofs.parts.Parts.figures.Goals as goal

pub loop-element-preserved : goal.loop-element-preserved
loop-element-preserved c =
    let holds = λ (e : ℕ) (f : Figures). AreFigures c.args.gauge (chain_of c.args.self.now) e f in
    let had = c.loop-element.figures.items in
    record {
      count = one_longer Figures had _ c.figures_of.result c.loop-element.element c.in_ok-push.ensures.items c.loop-element.invariant.count;
      each = each_pushed Figures holds had _ c.figures_of.result no_figures c.loop-element.element c.in_ok-push.ensures.items c.loop-element.invariant.count c.loop-element.invariant.each c.figures_of.ensures;
    }
