use Rattle.std.proofs.Common.{◌≡◌, drop}
use Rattle.element_lang.specs.View.{body_tree}
use Rattle.element_chain.specs.Laws.{any_uses_bytes}
use Rattle.chain_compose.proofs.uses.+uses.Given as goal

-- no statement so far reads bytes
abbrev pub invariant-any_uses_bytes-loop-stmt : goal.invariant-any_uses_bytes-loop-stmt
invariant-any_uses_bytes-loop-stmt l = any_uses_bytes (body_tree l.body) ≡ any_uses_bytes (body_tree (drop l.stmt-index l.body))
