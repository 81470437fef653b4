use Rattle.std.proofs.Common.{◌++◌, ◌∷◌, [], ℕ, ap, length, refl, ◌∙◌}
use Rattle.lossy_link.specs.Link.{Link, give, link_step}
use Rattle.lossy_replay.proofs.OnWays.{way_given}
use Rattle.lossy_replay.proofs.way.Way.give.Goals as goal

pub returns : goal.returns
returns c = λ l gone w.
    let me = c.args.self.now in
    way_given l gone me (record { line = c.give.new.self; standing = c.push.new.self; arrived = me.arrived }) c.args.frame w
    c.in_ok-number.ensures.at_work
    (c.in_ok-number.ensures.link ∙ ap (λ (m : Link). link_step m (give c.args.frame)) w.link)
    (c.in_ok-push.ensures.items ∙ ap (λ (n : ℕ). me.standing.items ++ n ∷ []) (c.in_ok-number.ensures.number ∙ ap (λ (m : Link). length m.items) w.link)) refl
