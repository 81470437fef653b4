use Rattle.std.proofs.Common.{ap, sym, ◌∙◌}
use Rattle.lossy_link.specs.Link.{with_sent}
use Rattle.lossy_replay.specs.Lines.{link_of}
use Rattle.lossy_replay.proofs.AtWork.{after_transmit}
use Rattle.lossy_replay.proofs.line.Line.transmit.Goals as goal

pub returns-in_ok-push-in-Some : goal.returns-in_ok-push-in-Some
returns-in_ok-push-in-Some c =
    let me = c.args.self.now in
    let work = after_transmit me (record me { sent = c.push.new.self }) c.args.j c.in-Some.number c.requires.at_work
    (sym c.unknown_at.ensures ∙ c.in-Some.is) c.in_ok-push-in-Some.ensures.items in
    record { link = work.link; at_work = work.at_work }

pub returns-in-None-clause-link : goal.returns-in-None-clause-link
returns-in-None-clause-link c = sym (ap (with_sent (link_of c.args.self.now)) (sym c.unknown_at.ensures ∙ c.in-None.is))

pub returns-in-None-clause-at_work : goal.returns-in-None-clause-at_work
returns-in-None-clause-at_work c = c.requires.at_work
