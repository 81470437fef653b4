-- Which packets are fast.
use Rattle.std.specs.Prelude.{◌≡◌, List, length, slice_get}
use Rattle.run_model.specs.declared.event.Event.{Event}
use Rattle.run_model.specs.declared.run.Run.{Run as RunTold}
use Rattle.run_model.specs.Serialises.{is_fast}
use Rattle.replay_state.specs.Program.{packet_at}
use Rattle.replay_state.specs.Run.{seen_store}
use Rattle.replay_contracts.specs.Inputs.{Inputs, whole}
use Rattle.replay_contracts.specs.Promise.{state_for}

-- the packet that comes in behind these events is fast just where it is over the store that lookups see then
abbrev pub IsFastAsSeen : Inputs → List Event → RunTold → Type 0
IsFastAsSeen x before run =
    let st = state_for x before in
    let n = length st.progress in
    is_fast (slice_get run.fates n) ≡ (whole x).is_fast (seen_store st) (packet_at x.packets n)
