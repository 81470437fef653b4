use Rattle.switch_machine.proofs.loaded.Loaded.new.Goals as goal

pub before-requires : goal.before-requires
before-requires c = rw c.in_ok-code.ensures.same c.requires.can

pub behind-requires : goal.behind-requires
behind-requires c = rw c.in_ok-code.ensures.same c.requires.can
