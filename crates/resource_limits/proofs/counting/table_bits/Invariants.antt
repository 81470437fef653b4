use Rattle.std.proofs.Common.{◌≡◌, ◌+◌, ◌*◌, ◌≤◌, ◌^◌, List, drop}
use Rattle.flat_ir.specs.Program.{Program}
use Rattle.split_model.specs.declared.split.Part.{Part}
use Rattle.split_model.specs.Counts.{bits_from}
use Rattle.resource_limits.specs.Counts.{each_object}
use Rattle.resource_limits.specs.Uses.{uses}
use Rattle.resource_limits.specs.declared.uses.Use.TheVariants.{Before, After}
use Rattle.resource_limits.proofs.counting.table_bits.Given as goal

abbrev pub invariant-loop-o : goal.invariant-loop-o
invariant-loop-o l = record {
  low : l.bits ≤ l.o * 2 ^ 48;
  so_far : (f : Program) (split : List Part) → f.objects ≡ l.objects → l.before ≡ each_object f (uses Before f split)
      → l.after ≡ each_object f (uses After f split)
      → l.bits + bits_from f split l.writeback l.o (drop l.o l.objects) ≡ bits_from f split l.writeback 0 l.objects;
}
