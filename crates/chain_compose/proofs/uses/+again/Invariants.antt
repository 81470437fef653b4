use Rattle.std.proofs.Common.{◌≡◌, drop}
use Rattle.element_lang.specs.View.{body_tree}
use Rattle.element_chain.specs.Laws.{any_sends_again}
use Rattle.chain_compose.proofs.uses.+again.Given as goal

-- no statement so far sends within a `repeat`
abbrev pub invariant-any_sends_again-loop-stmt : goal.invariant-any_sends_again-loop-stmt
invariant-any_sends_again-loop-stmt l = any_sends_again (body_tree l.body) ≡ any_sends_again (body_tree (drop l.stmt-index l.body))
