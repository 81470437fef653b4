use Rattle.std.proofs.Common.{◌≡◌, ◌<◌, ℕ, length, get_or}
use Rattle.flat_ir.specs.Program.{program_of}
use Rattle.server_runtime.specs.Registers.{seat_in}
use Rattle.server_runtime.proofs.resolved.seats_of.Given as goal

abbrev pub invariant-loop-instruction : goal.invariant-loop-instruction
invariant-loop-instruction l = record {
  count : length l.seats.items ≡ l.instruction;
  each : (i : ℕ) → i < l.instruction → get_or l.seats.items i 0 ≡ seat_in (program_of l.whole.flat) l.values i;
}
