use Rattle.std.proofs.Common.{◌≡◌, ◌<◌, ℕ, length, get_or}
use Rattle.flat_ir.specs.Program.{program_of}
use Rattle.server_runtime.specs.Registers.{place_in}
use Rattle.server_runtime.proofs.resolved.Resolved.list.Given as goal

abbrev pub invariant-loop-result_at : goal.invariant-loop-result_at
invariant-loop-result_at l = record {
  count : length l.places.items ≡ l.result_at;
  each : (k : ℕ) → k < l.result_at
      → get_or l.places.items k 0 ≡ place_in (program_of l.self.whole.now.flat) l.self.values.now (record { instruction = l.instruction; result = k });
}
