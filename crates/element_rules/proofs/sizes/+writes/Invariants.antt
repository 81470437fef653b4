use Rattle.std.proofs.Common.{◌≡◌, ◌+◌, ◌-◌, ◌^◌, ◌≤◌, min, drop}
use Rattle.element_lang.specs.View.{body_tree}
use Rattle.element_lang.specs.Sizes.{writes_in}
use Rattle.element_rules.proofs.sizes.+writes.Given as goal

abbrev pub invariant-writes_in-loop-next : goal.invariant-writes_in-loop-next
invariant-writes_in-loop-next l =
    (l.total ≤ 2 ^ 64 - 1) × (min (l.total + writes_in (body_tree (drop l.next-index l.source))) (2 ^ 64 - 1) ≡ min (writes_in (body_tree l.source))
    (2 ^ 64 - 1))
