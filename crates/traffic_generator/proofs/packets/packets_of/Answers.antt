use Rattle.std.proofs.Common.{◌≡◌, arith}
use Rattle.traffic_generator.proofs.Made.{next_made, length-made}
use Rattle.traffic_generator.proofs.packets.packets_of.Goals as goal

pub loop-number-preserved : goal.loop-number-preserved
loop-number-preserved c =
    next_made c.args.seed c.loop-number.number c.loop-number.packets c.push.new.self c.in_ok-packet_of.field-0
    c.loop-number.invariant c.in_ok-packet_of.ensures.packet c.in_ok-push.ensures.ok

pub returns-clause-number : goal.returns-clause-number
returns-clause-number c =
    let below = c.loop-number.auto.number-end in
    let above = c.loop-number-test.false in
    let all : c.loop-number.number ≡ c.args.count.packets = omega arith in
    length-made c.args.seed c.loop-number.number c.args.count.packets c.loop-number.packets c.loop-number.invariant all
