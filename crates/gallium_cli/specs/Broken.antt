-- What a switch is left with by a replay that it broke.
use Rattle.std.specs.Prelude.{ℕ, List, Option, false}
use Rattle.packet_fields.specs.declared.packet.Packet.{Packet}
use Rattle.element_lang.specs.Tree.{Tree}
use Rattle.split_model.specs.declared.split.Part.{Part}
use Rattle.run_model.specs.declared.link_event.LinkEvent.{LinkEvent}
use Rattle.run_text.specs.declared.plan.Plan.{Plan}
use Rattle.switch_ir.specs.Port.{PortState}
use Rattle.replay_contracts.specs.declared.job.ReplayError.TheVariants as errors
use Rattle.replay_contracts.specs.Inputs.{Inputs}
use Rattle.replay_contracts.specs.Replayer.{HasBroken}
use Rattle.traffic_generator.specs.Packets.{packets_of as made_packets}
use Rattle.gallium_cli.specs.Answers.{IsMadeSplit, IsSplitBy, IsTraffic, given}
use Rattle.gallium_cli.specs.Links.{IsLinkTraffic}
use Rattle.gallium_cli.specs.Words.{Request, Replay, Lossy, Gen, Within}

-- One call of the switch failed in a replay. The switch is as it was, but for the count of faults; or it was loaded
-- with the code of this split, keeps it, and may have been called more.
abbrev pub IsBrokenOn : Inputs → PortState → PortState → Type 0
IsBrokenOn x port port_after = HasBroken x errors.PortFault port port_after

-- what the replay of so many packets that are made from a seed left so
pub record IsMadeBroken (seed count : ℕ) (port port_after : PortState) : Type 0 where
  pub m : Tree
  pub split : List Part
  pub writeback : ℕ
  pub made : IsMadeSplit m split writeback
  pub broken : IsBrokenOn (given m split writeback (made_packets seed count) false) port port_after

-- What the replay that a request asks for left so: one of some middlebox and packets that the files spell, by the split
-- that is asked for. The events are spelled, too.
abbrev pub IsBroken : Request → (List ℕ → Option (List ℕ)) → PortState → PortState → Type 0
IsBroken (Replay s t c by) told port port_after =
    (m : Tree) × (split : List Part) × (writeback : ℕ) × (packets : List Packet) × (plan : Plan)
    × IsSplitBy by told s m split writeback × IsTraffic told t c packets plan
    × IsBrokenOn (given m split writeback packets plan.fine) port port_after
IsBroken (Lossy s t c l) told port port_after =
    (m : Tree) × (split : List Part) × (writeback : ℕ) × (packets : List Packet) × (events : List LinkEvent)
    × IsSplitBy (Within l false) told s m split writeback × IsLinkTraffic told t c packets events
    × IsBrokenOn (given m split writeback packets false) port port_after
IsBroken (Gen seed count) told port port_after = IsMadeBroken seed count port port_after
IsBroken _ told port port_after = ⊥
