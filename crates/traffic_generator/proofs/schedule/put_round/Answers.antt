use Rattle.traffic_generator.proofs.Copies.{five_put}
use Rattle.traffic_generator.proofs.schedule.put_round.Goals as goal

pub returns : goal.returns
returns c =
    five_put c.put_copies-5.result c.args.events.now c.put_copies.new.events c.put_copies-2.new.events
    c.put_copies-3.new.events c.put_copies-4.new.events c.put_copies-5.new.events _ _ _ _ _
    c.in_ok-put_copies.ensures c.in_ok-put_copies-2.ensures c.in_ok-put_copies-3.ensures c.in_ok-put_copies-4.ensures
    c.put_copies-5.ensures
