use Rattle.std.proofs.Common.{◌≡◌, ◌+◌, ◌*◌, ◌≤◌, take}
use Rattle.split_model.specs.Counts.{total}
use Rattle.split_model.proofs.layout.layout_bytes.Given as goal

abbrev pub invariant-loop-crossing : goal.invariant-loop-crossing
invariant-loop-crossing l = record {
  so_far : l.bits ≡ total (take l.crossing-index l.layout) + 7;
  few : l.bits ≤ 64 * l.crossing-index + 7;
}
