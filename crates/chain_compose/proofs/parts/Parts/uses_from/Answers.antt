use Rattle.chain_compose.proofs.NamedCode.{whole_told}
use Rattle.chain_compose.proofs.parts.Parts.uses_from.Goals as goal

pub returns : goal.returns
returns c = whole_told c.args.self.now c.args.least c.in_ok-count.count c.in_ok-count.ensures
