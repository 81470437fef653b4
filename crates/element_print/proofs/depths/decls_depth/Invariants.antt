use Rattle.std.proofs.Common.{◌≡◌, ◌-◌, ◌^◌, ◌≤◌, max, drop}
use Rattle.element_print.specs.Lengths.{capped}
use Rattle.element_print.specs.Depths.{decls_depth}
use Rattle.element_print.proofs.depths.decls_depth.Given as goal

-- the declarations that are left give what all give
abbrev pub invariant-loop-o : goal.invariant-loop-o
invariant-loop-o l =
    (l.deepest ≤ 2 ^ 64 - 1) × (capped (max l.deepest (decls_depth (drop l.o-index l.objects))) ≡ capped (decls_depth l.objects))
