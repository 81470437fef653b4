use Rattle.chain_compose.specs.Parts.{chain_of}
use Rattle.chain_compose.proofs.Elements.{more_again}
use Rattle.chain_compose.proofs.parts.Parts.count.Goals as goal

pub loop-init : goal.loop-init
loop-init c = c.in_ok-endings.ensures

pub loop-preserved : goal.loop-preserved
loop-preserved c =
    more_again c.args.gauge (chain_of c.args.self.now) c.loop.counter c.loop.endings.items c.deref-in-loop-2.result.now c.in_ok-endings-2.endings.items
    c.deref-in-loop-2.ensures.value c.loop.invariant c.in_ok-endings-2.ensures
