use Rattle.std.proofs.Common.{◌≡◌, take}
use Rattle.element_text.proofs.objects.widths_of.Given as goal

abbrev pub invariant-loop-bits : goal.invariant-loop-bits
invariant-loop-bits l = l.widths ≡ take l.bits-index l.source
