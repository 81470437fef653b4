use Rattle.std.proofs.Common.{◌≡◌, ◌-◌, ◌^◌, ◌≤◌, max, min, drop}
use Rattle.element_lang.specs.View.{body_tree}
use Rattle.chain_compose.specs.SendLevels.{level_in}
use Rattle.chain_compose.proofs.depth.+level.Given as goal

abbrev pub invariant-level_in-loop-stmt : goal.invariant-level_in-loop-stmt
invariant-level_in-loop-stmt l =
    (l.level ≤ 2 ^ 64 - 1) × (min (max l.level (level_in (body_tree (drop l.stmt-index l.body)))) (2 ^ 64 - 1) ≡ min (level_in (body_tree l.body)) (2 ^ 64 - 1))
