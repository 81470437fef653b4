use Rattle.std.proofs.Common.{◌≡◌, ◌++◌, ◌∷◌, [], map, drop}
use Rattle.element_lang.specs.declared.mark.Mark.TheVariants.{Comma}
use Rattle.element_lang.specs.Surface.{local_name}
use Rattle.element_lang.specs.Token.{name}
use Rattle.element_lang.specs.View.{tree}
use Rattle.element_print.specs.Printed.{behind_each}
use Rattle.element_print.specs.Spaced.{spaced}
use Rattle.element_print.proofs.stmt.put_names.Given as goal

-- the names that are left give what all gave at the start
abbrev pub invariant-loop-local : goal.invariant-loop-local
invariant-loop-local l =
    l.out ++ spaced (behind_each Comma (map (λ word. name word ∷ []) (map (local_name (tree l.m)) (drop l.local-index l.locals))))
    ≡ l.initial.out ++ spaced (behind_each Comma (map (λ word. name word ∷ []) (map (local_name (tree l.m)) l.locals)))
