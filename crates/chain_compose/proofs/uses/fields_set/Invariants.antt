use Rattle.std.proofs.Common.{◌≡◌, ◌++◌, drop, map}
use Rattle.std.specs.List.{filter}
use Rattle.element_lang.specs.View.{tree}
use Rattle.element_chain.specs.Compose.{is_set}
use Rattle.chain_compose.proofs.uses.fields_set.Given as goal

abbrev pub invariant-loop-field : goal.invariant-loop-field
invariant-loop-field l =
    l.found.items ++ filter (is_set (map tree l.classes)) (drop l.field-index l.field-items) ≡ filter (is_set (map tree l.classes)) l.field-items
