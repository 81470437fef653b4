use Rattle.std.proofs.Common.{◌≡◌, ◌++◌, map, drop}
use Rattle.element_lang.specs.Surface.{named_decl}
use Rattle.element_print.specs.Printed.{decls_tokens}
use Rattle.element_print.specs.Spaced.{spaced}
use Rattle.element_print.proofs.decl.put_decls.Given as goal

-- the declarations that are left give what all gave at the start
abbrev pub invariant-loop-o : goal.invariant-loop-o
invariant-loop-o l =
    l.out ++ spaced (decls_tokens (map (λ o. record { at = 0; decl = named_decl o }) (drop l.o-index l.objects)))
    ≡ l.initial.out ++ spaced (decls_tokens (map (λ o. record { at = 0; decl = named_decl o }) l.objects))
