use Rattle.std.proofs.Common.{Some, None, ap, refl, sym, ◌∙◌}
use Rattle.lossy_link.specs.Link.{Link, arrive, link_step}
use Rattle.lossy_replay.specs.Lines.{delivered_by}
use Rattle.lossy_replay.proofs.OnWays.{way_delivered}
use Rattle.lossy_replay.proofs.way.Way.deliver.Goals as goal

pub returns-in_ok-push-in-Some : goal.returns-in_ok-push-in-Some
returns-in_ok-push-in-Some c = λ l gone w.
    let me = c.args.self.now in
    let link = c.in_ok-delivered.ensures.link ∙ ap (λ (m : Link). link_step m (arrive c.args.j)) w.link in
    way_delivered l gone me (record { line = c.deliver.new.self; standing = me.standing; arrived = c.push.new.self }) c.args.j (Some c.in-Some.number) w
    c.in_ok-delivered.ensures.at_work link
    (sym (λ i. delivered_by (w.link i) (link i)) ∙ (c.in_ok-delivered.ensures.delivered ∙ c.in-Some.is)) refl c.in_ok-push-in-Some.ensures.items

pub returns-in-None : goal.returns-in-None
returns-in-None c = λ l gone w.
    let me = c.args.self.now in
    let link = c.in_ok-delivered.ensures.link ∙ ap (λ (m : Link). link_step m (arrive c.args.j)) w.link in
    way_delivered l gone me (record { line = c.deliver.new.self; standing = me.standing; arrived = me.arrived }) c.args.j None w
    c.in_ok-delivered.ensures.at_work link
    (sym (λ i. delivered_by (w.link i) (link i)) ∙ (c.in_ok-delivered.ensures.delivered ∙ c.in-None.is)) refl refl
