use Rattle.std.proofs.Common.{◌≡◌, arith}
use Rattle.traffic_generator.specs.Schedule.{rounds_of}
use Rattle.traffic_generator.proofs.Copies.{few_made}
use Rattle.traffic_generator.proofs.schedule.events_of.Goals as goal

pub returns-clause-bounded : goal.returns-clause-bounded
returns-clause-bounded c =
    let below = c.loop-round.auto.round-end in
    let above = c.loop-round-test.false in
    let all : c.loop-round.round ≡ rounds_of c.args.count.packets = omega arith in
    few_made c.loop-round.events c.loop-round.round c.args.count.packets c.loop-round.invariant all c.args.count.few
