-- The counts that a report tells.
use Rattle.std.specs.Prelude.{◌≡◌, ◌≤◌, List, length, count_by}
use Rattle.packet_fields.specs.declared.packet.Packet.{Packet}
use Rattle.run_model.specs.Fate.{is_decided, is_released}
use Rattle.run_model.specs.declared.run.Run.{Run}

-- The counts are those of the trace, and of the fates that the report tells.
pub record CountsAgree (packets : List Packet) (run : Run) : Type 0 where
  pub total : run.total ≡ length packets
  -- no more packets are admitted than there are
  pub admitted : length run.fates ≤ length packets
  pub decided : run.decided ≡ count_by is_decided run.fates
  pub released : run.released ≡ count_by is_released run.fates
