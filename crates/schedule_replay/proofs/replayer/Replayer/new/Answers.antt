use Rattle.schedule_replay.proofs.ReplayerStates.{copy_is_new, copy_performs, copy_stands}
use Rattle.schedule_replay.proofs.replayer.Replayer.new.Goals as goal

pub returns-in-Ok-clause-begun : goal.returns-in-Ok-clause-begun
returns-in-Ok-clause-begun g c = copy_is_new _ _ _ _ _ c.in-Ok.ensures.same c.in-Ok.ensures.begun

pub returns-in-Ok-clause-performed : goal.returns-in-Ok-clause-performed
returns-in-Ok-clause-performed g c = copy_performs _ _ _ _ _ c.in-Ok.ensures.same c.in-Ok.ensures.begun

pub invariant_of-result : goal.invariant_of-result
invariant_of-result g c =
    copy_stands _ _ _ _ _ c.in-Ok.ensures.same c.in-Ok.ensures.begun c.requires.few_packets
