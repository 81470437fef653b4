use Rattle.std.proofs.Common.{◌≡◌, ◌+◌, ◌-◌, ◌^◌, ◌≤◌, drop}
use Rattle.element_print.specs.Lengths.{capped, decls_length}
use Rattle.element_print.proofs.decl_lengths.decls_length.Given as goal

-- the declarations that are left give what all give
abbrev pub invariant-loop-o : goal.invariant-loop-o
invariant-loop-o l =
    (l.bytes ≤ 2 ^ 64 - 1) × (capped (l.bytes + decls_length (drop l.o-index l.objects)) ≡ capped (decls_length l.objects))
