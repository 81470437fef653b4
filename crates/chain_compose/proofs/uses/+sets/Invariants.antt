use Rattle.std.proofs.Common.{◌≡◌, drop}
use Rattle.element_lang.specs.View.{body_tree}
use Rattle.element_chain.specs.Compose.{sets_in}
use Rattle.chain_compose.proofs.uses.+sets.Given as goal

-- no statement so far sets the field
abbrev pub invariant-sets_in-loop-stmt : goal.invariant-sets_in-loop-stmt
invariant-sets_in-loop-stmt l = sets_in l.field (body_tree l.body) ≡ sets_in l.field (body_tree (drop l.stmt-index l.body))
