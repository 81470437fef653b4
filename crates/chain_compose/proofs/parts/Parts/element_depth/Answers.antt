use Rattle.chain_compose.specs.Parts.{chain_of}
use Rattle.chain_compose.proofs.DeepCaps.{element_told}
use Rattle.chain_compose.proofs.RoutesAt.{own_wires}
use Rattle.chain_compose.proofs.parts.Parts.element_depth.Goals as goal

pub returns : goal.returns
returns c =
    let parts = c.args.self.now in
    let e = c.args.element in
    element_told (chain_of parts) c.args.depths.now e c.of-wires.result.now c.args.own.depth c.args.own.level c.tests_depth.result c.with_tests.result
    (own_wires parts e c.of-wires.result.now c.requires.element_in_range c.of-wires.ensures)
    c.requires.own_told.depth c.requires.own_told.level c.tests_depth.ensures c.with_tests.ensures
