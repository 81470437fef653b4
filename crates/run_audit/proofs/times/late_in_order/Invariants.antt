use Rattle.std.proofs.Common.{◌≡◌, drop}
use Rattle.run_audit.specs.Walk.{least_in, late_in}
use Rattle.run_audit.proofs.times.late_in_order.Given as goal

abbrev pub invariant-loop-place : goal.invariant-loop-place
invariant-loop-place l = record {
  least : l.least ≡ least_in l.fates (drop l.place l.order);
  late : l.late ≡ late_in l.fates (drop l.place l.order);
}
