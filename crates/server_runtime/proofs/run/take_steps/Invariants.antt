use Rattle.std.proofs.Common.{◌≤◌, length, vec_capacity}
use Rattle.flat_ir.specs.Program.{program_of}
use Rattle.flat_ir.specs.Registers.{packet_of}
use Rattle.server_runtime.specs.Registers.{handed}
use Rattle.server_runtime.specs.Resolved.{instructions_of, AreResolved}
use Rattle.server_runtime.specs.StepsTaken.{IsServing}
use Rattle.server_runtime.proofs.Walked.{at_or}
use Rattle.server_runtime.proofs.run.take_steps.Given as goal

abbrev pub invariant-loop-step : goal.invariant-loop-step
invariant-loop-step l = record {
  serving : IsServing (program_of l.whole.flat) l.whole.split (handed (program_of l.whole.flat) l.whole.split l.initial.values) l.initial.store (packet_of l.arrival)
      (at_or (instructions_of l.whole.steps.items) l.step-index (length (program_of l.whole.flat).code)) l.values l.store l.updates.items;
  resolved : AreResolved (program_of l.whole.flat) l.whole.seats.items l.whole.steps.items l.values;
  room : vec_capacity l.initial.updates ≤ vec_capacity l.updates;
}
