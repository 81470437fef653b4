-- A server's run begins.
use Rattle.packet_fields.specs.declared.packet.Packet.{Packet}
use Rattle.state_store.specs.Kept.{IsKept}
use Rattle.state_store.specs.Store.{Store}
use Rattle.flat_ir.specs.Arrivals.{IsArrival}
use Rattle.flat_ir.specs.Blocks.{Reading}
use Rattle.flat_ir.specs.Laws.{AllFit}
use Rattle.flat_ir.specs.Program.{program_of}
use Rattle.server_runtime.specs.declared.plan.PreparedProgram.{PreparedProgram}
use Rattle.server_runtime.specs.Plans.{IsPrepared}
use Rattle.server_runtime.specs.StepsTaken.{IsBegun}

pub begun_of : (whole : PreparedProgram) (up : Reading) (st : Store) (packet : Packet) → IsPrepared whole → IsKept whole.flat.objects st
    → AllFit (program_of whole.flat) up → IsArrival packet → IsBegun (program_of whole.flat) whole.split up st packet
begun_of whole up st packet prepared kept fit arrives = record {
  formed = prepared.bounded.formed;
  legal = prepared.legal;
  kept = kept;
  fit = fit;
  arrives = arrives;
}
