use Rattle.std.proofs.Common.{◌≡◌, arith}
use Rattle.std.proofs.lemmas.Grind.{common_steps}
use Rattle.run_text.specs.LinkSchedule.{link_schedule_text}
use Rattle.run_text.proofs.LinkSchedules.{links_back}
use Rattle.run_text.proofs.link_schedule.print_link_schedule.Goals as goal

pub returns-clause-back : goal.returns-clause-back
returns-clause-back c are =
    let whole : c.put_link_events.new.text ≡ link_schedule_text c.args.events.now = grind (arith, common_steps) in
    let lines = rw c.as_slice.ensures at c.in_ok-put_link_events.ensures.back in
    rw whole (links_back c.args.events.now (λ k d inside. lines k d inside (are.whole k d inside)) are.few)
