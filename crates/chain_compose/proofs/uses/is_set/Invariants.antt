use Rattle.std.proofs.Common.{◌≡◌, drop, map}
use Rattle.element_lang.specs.View.{tree}
use Rattle.element_chain.specs.Compose.{is_set}
use Rattle.chain_compose.proofs.uses.is_set.Given as goal

-- no element so far sets the field
abbrev pub invariant-loop-class : goal.invariant-loop-class
invariant-loop-class l = is_set (map tree l.classes) l.field ≡ is_set (map tree (drop l.class-index l.classes)) l.field
