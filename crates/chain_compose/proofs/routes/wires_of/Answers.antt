use Rattle.std.proofs.Common.{arith}
use Rattle.chain_compose.proofs.RoutesAt.{first_route, next_route, no_route}
use Rattle.chain_compose.proofs.routes.wires_of.Goals as goal

pub loop-output-init : goal.loop-output-init
loop-output-init c = (omega arith, first_route c.args.wires.now c.args.element _ c.new-found.ensures.items)

pub loop-output-preserved : goal.loop-output-preserved
loop-output-preserved c = (
  omega arith,
  next_route c.args.wires.now _ c.args.element c.loop-output.output c.loop-output.found.items _ _ (omega arith) c.wire_at.ensures c.in_ok-keep.ensures c.loop-output.invariant.1,
)

pub returns : goal.returns
returns c = no_route c.args.wires.now c.args.element c.loop-output.output c.loop-output.found.items _ (omega arith) c.loop-output.invariant.1
