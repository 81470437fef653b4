use Rattle.std.proofs.Common.{◌≡◌, ◌++◌, ◌∷◌, [], map, drop}
use Rattle.element_lang.specs.declared.mark.Mark.TheVariants.{Comma}
use Rattle.element_lang.specs.Token.{number}
use Rattle.element_print.specs.Printed.{joined}
use Rattle.element_print.specs.Spaced.{spaced, separated}
use Rattle.element_print.proofs.decl.put_numbers.Given as goal

-- the numbers that are left give what all gave at the start
abbrev pub invariant-loop-number : goal.invariant-loop-number
invariant-loop-number l =
    l.out ++ spaced (separated l.behind Comma (map (λ w. number w ∷ []) (drop l.number-index l.numbers)))
    ≡ l.initial.out ++ spaced (joined Comma (map (λ w. number w ∷ []) l.numbers))
