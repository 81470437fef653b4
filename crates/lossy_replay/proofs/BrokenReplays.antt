-- A replay over links that breaks.
use Rattle.std.proofs.Common.{List, sym, ◌∙◌}
use Rattle.std.specs.Prelude.{Ok}
use Rattle.run_model.specs.declared.link_event.LinkEvent.{LinkEvent}
use Rattle.switch_ir.specs.Port.{PortState, Loads}
use Rattle.replay_contracts.specs.Inputs.{Inputs, code_for}
use Rattle.replay_contracts.specs.Replayer.{Fails, HasBroken, StaysTold}
use Rattle.replay_contracts.specs.declared.job.ReplayError.{ReplayError}
use Rattle.replay_course.specs.declared.course.Course.{Course}
use Rattle.lossy_replay.specs.Linking.{HasLinked}
use Rattle.lossy_replay.specs.declared.links.Links.{Links}
use Rattle.replay_course.proofs.LeftByErrors.{broken_behind}

-- a port that was loaded, where some events came through before it fails
pub breaks_behind : (x : Inputs) (e : ReplayError) (schedule : List LinkEvent) (links : Links) (c : Course)
    (first begun port new : PortState) → Loads (Ok tt) (code_for x) first begun → StaysTold first begun
    → HasLinked x schedule links c first port → Fails e port new → HasBroken x e first new
breaks_behind x e schedule links c first begun port new loads stays has fails =
    broken_behind x e has.linking.calls first begun port new loads has.linking.replay.called
    (record { told = has.stays.told ∙ sym stays.told; faults = has.stays.faults ∙ sym stays.faults }) fails
