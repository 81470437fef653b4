use Rattle.std.proofs.Common.{◌≡◌, ◌-◌, ◌^◌, ◌≤◌, max, min, drop}
use Rattle.element_lang.specs.View.{body_tree}
use Rattle.chain_compose.specs.Depths.{placed_depth}
use Rattle.chain_compose.specs.SendLevels.{port_depth}
use Rattle.chain_compose.proofs.depth.+own.Given as goal

abbrev pub invariant-own_in-loop-stmt : goal.invariant-own_in-loop-stmt
invariant-own_in-loop-stmt l =
    (l.depth ≤ 2 ^ 64 - 1) × (min (max l.depth (placed_depth (port_depth l.wired) (body_tree (drop l.stmt-index l.body)))) (2 ^ 64 - 1) ≡ min (placed_depth (port_depth l.wired) (body_tree l.body)) (2 ^ 64 - 1))
