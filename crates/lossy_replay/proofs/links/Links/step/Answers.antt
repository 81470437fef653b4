use Rattle.std.proofs.Common.{ap}
use Rattle.std.specs.Prelude.{slice_get}
use Rattle.lossy_link.specs.Link.{arrive, confirm, link_step, send}
use Rattle.lossy_link.specs.Sender.{unknown}
use Rattle.replay_contracts.specs.Inputs.{setup_for}
use Rattle.replay_contracts.specs.Replayer.{inputs_of}
use Rattle.lossy_replay.specs.Linked.{linked_step}
use Rattle.lossy_link.proofs.Faithful.{arrived_items, confirmed_items, sent_items}
use Rattle.lossy_replay.proofs.GoingOn.{link_on}
use Rattle.lossy_replay.proofs.links.Links.step.Goals as goal

pub returns-in_ok-transmit-in-Transmit-clause-ok : goal.returns-in_ok-transmit-in-Transmit-clause-ok
returns-in_ok-transmit-in-Transmit-clause-ok g c = λ schedule linking.
    let x = inputs_of c.args.job.now in
    link_on (λ one. link_step one (send c.in-Transmit.j)) (λ one. sent_items one (slice_get (unknown one.items one.known) c.in-Transmit.j)) x schedule c.args.event c.in-Transmit.link
    c.args.self.now c.transmit.new.self c.args.course.now (g.S.SwitchPort.seen c.args.port.now) linking
    (λ w. ap (linked_step (setup_for x) w linking.linked) c.in-Transmit.is)
    (c.in_ok-transmit-in-Transmit.ensures _ linking.linked linking.links_are)

pub returns-in_ok-deliver-in-Deliver-clause-ok : goal.returns-in_ok-deliver-in-Deliver-clause-ok
returns-in_ok-deliver-in-Deliver-clause-ok g c = λ schedule linking.
    let x = inputs_of c.args.job.now in
    link_on (λ one. link_step one (arrive c.in-Deliver.j)) (λ one. arrived_items one (slice_get one.sent c.in-Deliver.j)) x schedule c.args.event c.in-Deliver.link
    c.args.self.now c.deliver.new.self c.args.course.now (g.S.SwitchPort.seen c.args.port.now) linking
    (λ w. ap (linked_step (setup_for x) w linking.linked) c.in-Deliver.is)
    (c.in_ok-deliver-in-Deliver.ensures _ linking.linked linking.links_are)

pub returns-in-Confirm-clause-ok : goal.returns-in-Confirm-clause-ok
returns-in-Confirm-clause-ok g c = λ schedule linking.
    let x = inputs_of c.args.job.now in
    link_on (λ one. link_step one (confirm c.in-Confirm.j)) (λ one. confirmed_items one (slice_get one.back c.in-Confirm.j)) x schedule c.args.event c.in-Confirm.link
    c.args.self.now c.confirm.new.self c.args.course.now (g.S.SwitchPort.seen c.args.port.now) linking
    (λ w. ap (linked_step (setup_for x) w linking.linked) c.in-Confirm.is)
    (c.confirm.ensures _ linking.linked linking.links_are)
