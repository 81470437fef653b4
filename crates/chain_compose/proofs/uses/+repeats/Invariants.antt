use Rattle.std.proofs.Common.{◌≡◌, drop}
use Rattle.element_lang.specs.View.{body_tree}
use Rattle.element_lang.specs.Rules.{any_repeats}
use Rattle.chain_compose.proofs.uses.+repeats.Given as goal

-- no statement so far repeats
abbrev pub invariant-any_repeats-loop-stmt : goal.invariant-any_repeats-loop-stmt
invariant-any_repeats-loop-stmt l = any_repeats (body_tree l.body) ≡ any_repeats (body_tree (drop l.stmt-index l.body))
