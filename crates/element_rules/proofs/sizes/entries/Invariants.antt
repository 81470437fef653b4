use Rattle.std.proofs.Common.{◌≡◌, ◌+◌, ◌-◌, ◌^◌, ◌≤◌, min, drop}
use Rattle.element_lang.specs.Sizes.{entries_in}
use Rattle.element_rules.proofs.sizes.entries.Given as goal

abbrev pub invariant-loop-object : goal.invariant-loop-object
invariant-loop-object l =
    (l.total ≤ 2 ^ 64 - 1) × (min (l.total + entries_in (drop l.object-index l.object-items)) (2 ^ 64 - 1) ≡ min (entries_in l.fn.m.objects) (2 ^ 64 - 1))
