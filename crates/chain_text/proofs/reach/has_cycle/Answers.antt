use Rattle.chain_text.proofs.Tables.{cycle_is}
use Rattle.element_chain.proofs.Laws.{wires_lead}
use Rattle.chain_text.proofs.reach.has_cycle.Goals as goal

pub returns : goal.returns
returns c =
    let wires = c.args.wires.now in
    let count = c.args.count in
    cycle_is wires count c.in_ok-reach.reach c.leads_back.result c.requires.within (λ e f. wires_lead wires count e f c.requires.within)
    c.in_ok-reach.ensures c.leads_back.ensures
