use Rattle.std.proofs.Common.{◌≡◌, drop}
use Rattle.std.specs.List.{find}
use Rattle.std.specs.Str.{bytes_eq}
use Rattle.element_lang.specs.Mark.{spelling}
use Rattle.element_lang.proofs.mark.first_written.Given as goal

abbrev pub invariant-loop-mark : goal.invariant-loop-mark
invariant-loop-mark l =
    find (λ m. bytes_eq (spelling m) l.word) l.list ≡ find (λ m. bytes_eq (spelling m) l.word) (drop l.mark-index l.list)
