use Rattle.std.proofs.Common.{◌≡◌, true, take, drop, map}
use Rattle.element_lang.specs.Surface.{value_row}
use Rattle.element_grammar.specs.Surface.{surface_row}
use Rattle.element_text.specs.Resolve.{are_written}
use Rattle.element_text.proofs.objects.rows_of.Given as goal

abbrev pub invariant-loop-next : goal.invariant-loop-next
invariant-loop-next l = (l.rows ≡ map value_row (map surface_row (take l.next-index l.source))) × (are_written l.keys l.values (map surface_row (drop l.next-index l.source)) ≡ true)
