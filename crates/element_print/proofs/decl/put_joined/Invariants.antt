use Rattle.std.proofs.Common.{◌≡◌, ◌++◌, map, drop}
use Rattle.element_lang.specs.declared.mark.Mark.TheVariants.{Comma}
use Rattle.element_lang.specs.Surface.{literals}
use Rattle.element_print.specs.Printed.{joined, literal_tokens}
use Rattle.element_print.specs.Spaced.{spaced, separated}
use Rattle.element_print.proofs.decl.put_joined.Given as goal

-- the numbers that are left give what all gave at the start
abbrev pub invariant-loop-i : goal.invariant-loop-i
invariant-loop-i l =
    l.out ++ spaced (separated l.behind Comma (map literal_tokens (literals (drop l.i l.widths) (drop l.i l.numbers))))
    ≡ l.initial.out ++ spaced (joined Comma (map literal_tokens (literals l.widths l.numbers)))
