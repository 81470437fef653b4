use Rattle.std.proofs.Common.{sym, subst, ◌+◌}
use Rattle.std.proofs.lemmas.Result.{on_ok_weaker}
use Rattle.lossy_link.specs.Link.{arrive, link_step}
use Rattle.run_model.specs.declared.link_event.Link.{Link as LinkName}
use Rattle.lossy_replay.specs.Linked.{at_link}
use Rattle.lossy_replay.specs.Linking.{AreLinks}
use Rattle.lossy_replay.proofs.LinkCounts.{down_arrived, up_arrived}
use Rattle.lossy_replay.proofs.links.Links.deliver.Goals as goal

pub returns-in-Up : goal.returns-in-Up
returns-in-Up c = on_ok_weaker c.deliver.result (λ step n l are.
    subst (λ (name : LinkName). AreLinks (n + 1) (at_link (λ one. link_step one (arrive c.args.j)) l name) (record c.args.self.now { up = c.deliver.new.self })) (sym c.in-Up.is)
    (up_arrived n c.args.j l c.args.self.now c.deliver.new.self are (step l.up l.ran are.up))) c.deliver.ensures

pub returns-in-Down : goal.returns-in-Down
returns-in-Down c = on_ok_weaker c.deliver-in-Down.result (λ step n l are.
    subst (λ (name : LinkName). AreLinks (n + 1) (at_link (λ one. link_step one (arrive c.args.j)) l name) (record c.args.self.now { down = c.deliver-in-Down.new.self })) (sym c.in-Down.is)
    (down_arrived n c.args.j l c.args.self.now c.deliver-in-Down.new.self are (step l.down l.taken are.down))) c.deliver-in-Down.ensures
