use Rattle.std.proofs.Common.{rules}
use Rattle.run_text.proofs.LinkSchedules.{confirm_back, deliver_back, on_ok, transmit_back, world_back}
use Rattle.run_text.proofs.link_schedule.put_link_event.Goals as goal

pub returns-in-World-clause-back : goal.returns-in-World-clause-back
returns-in-World-clause-back c whole =
    let told = rw c.in-World.is at whole in
    rw c.in-World.is (on_ok c.put_event.result (λ h. world_back c.in-World.event h told) c.put_event.ensures.back)

pub returns-in-Transmit-clause-back : goal.returns-in-Transmit-clause-back
returns-in-Transmit-clause-back c whole =
    let back = transmit_back c.in-Transmit.link c.in-Transmit.number c.put_place.ensures.fits in rw c.in-Transmit.is (search rules)

pub returns-in-Deliver-clause-back : goal.returns-in-Deliver-clause-back
returns-in-Deliver-clause-back c whole =
    let back = deliver_back c.in-Deliver.link c.in-Deliver.number c.put_place-in-Deliver.ensures.fits in rw c.in-Deliver.is (search rules)

pub returns-in-Confirm-clause-back : goal.returns-in-Confirm-clause-back
returns-in-Confirm-clause-back c whole =
    let back = confirm_back c.in-Confirm.link c.in-Confirm.number c.put_place-in-Confirm.ensures.fits in rw c.in-Confirm.is (search rules)
