use Rattle.std.proofs.Common.{◌≡◌, drop}
use Rattle.element_lang.specs.View.{body_tree}
use Rattle.element_chain.specs.Laws.{any_sends}
use Rattle.chain_compose.proofs.uses.+sends.Given as goal

-- no statement so far sends
abbrev pub invariant-any_sends-loop-stmt : goal.invariant-any_sends-loop-stmt
invariant-any_sends-loop-stmt l = any_sends (body_tree l.body) ≡ any_sends (body_tree (drop l.stmt-index l.body))
