use Rattle.std.proofs.Common.{◌≡◌, ◌<◌, ℕ, None, length, get_or}
use Rattle.flat_ir.specs.Plan.{register_in}
use Rattle.flat_ir.proofs.reg_plan.first_registers.Given as goal

abbrev pub invariant-loop-value : goal.invariant-loop-value
invariant-loop-value l = record {
  count : length l.first.items ≡ l.value;
  each : (v : ℕ) → v < l.value → get_or l.first.items v None ≡ register_in l.registers.rows v;
}
