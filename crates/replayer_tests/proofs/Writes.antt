-- A program with few instructions writes seldom.
use Rattle.std.proofs.Common.{◌≤◌, ℕ, Bool, true, false, List, arith, length}
use Rattle.std.specs.Prelude.{if◌then◌else◌}
use Rattle.flat_ir.specs.Program.{Program, step_at}
use Rattle.split_model.specs.Counts.{writes}
use Rattle.split_model.specs.Shown.{is_replicated, writes_to}
use Rattle.split_model.specs.declared.split.Part.{Part}
use Rattle.resource_limits.proofs.Tallies.{count_low}

at_most : (b : Bool) (n m most : ℕ) → n ≤ m → m ≤ most → (if b then n else 0) ≤ most
at_most true n m most h k = omega arith
at_most false n m most h k = omega arith

pub few_writes : (f : Program) (split : List Part) (most : ℕ) → length f.code ≤ most → (o : ℕ) → writes f split o ≤ most
few_writes f split most few o =
    at_most (is_replicated f split o) _ (length f.code) most (count_low (length f.code) (λ i. writes_to o (step_at f i).work)) few
