use Rattle.std.proofs.Common.{◌≡◌, ◌-◌, ◌^◌, ◌≤◌, max, min, map, drop}
use Rattle.element_lang.specs.View.{tree}
use Rattle.chain_compose.specs.Depths.{all_decls_depth}
use Rattle.chain_compose.proofs.depth.all_decls_depth.Given as goal

abbrev pub invariant-loop-class : goal.invariant-loop-class
invariant-loop-class l =
    (l.depth ≤ 2 ^ 64 - 1) × (min (max l.depth (all_decls_depth (map tree (drop l.class-index l.classes)))) (2 ^ 64 - 1) ≡ min (all_decls_depth (map tree l.classes)) (2 ^ 64 - 1))
