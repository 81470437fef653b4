-- What a server's run computes, step by step.
use Rattle.std.specs.Prelude.{ℕ, zero, suc, ◌-◌, List, length, slice_index, if◌then◌else◌}
use Rattle.packet_fields.specs.declared.packet.Packet.{Packet}
use Rattle.state_store.specs.Store.{Store}
use Rattle.flat_ir.specs.Blocks.{is_live, Reading}
use Rattle.flat_ir.specs.Program.{Program, step_at}
use Rattle.flat_ir.specs.Run.{results}
use Rattle.split_model.specs.declared.split.Part.{Part}
use Rattle.split_model.specs.Layouts.{values_below}
use Rattle.split_model.specs.Passes.{served}
use Rattle.transfer_header.specs.Steps.{Contents, Steps}
use Rattle.server_runtime.specs.Registers.{contents_of, reading_of}
use Rattle.server_runtime.specs.Spans.{is_taken, reads_at, writes_at}

-- the results of instruction i, from what is read of values and of a store
abbrev pub row_of : Program → Packet → ℕ → Reading → Store → List ℕ
row_of f packet i reads st = results reads (is_live f.blocks reads (step_at f i).block) st packet (step_at f i).work

-- the numbers that a step gives: what is handed up, and then the results of the instructions that the server
-- evaluates, each from the store at its turn
abbrev pub number_at : Program → List Part → Reading → Store → Packet → ℕ → Contents → Contents
number_at f split up st packet zero contents n = contents_of f up n
number_at f split up st packet (suc i) contents n =
    if is_taken f split i
    then slice_index (row_of f packet i (reading_of f contents) (served f split up st packet i).store)
    (n - length (values_below f i))
    else 0

abbrev pub server_steps : Program → List Part → Reading → Store → Packet → Steps
server_steps f split up st packet = record {
  reads = reads_at f split;
  writes = writes_at f split;
  number = number_at f split up st packet;
}

-- the number of each value before step i + 1
abbrev pub contents_at : Program → List Part → Reading → Store → Packet → ℕ → Contents
contents_at f split up st packet i = contents_of f (served f split up st packet i).reads
