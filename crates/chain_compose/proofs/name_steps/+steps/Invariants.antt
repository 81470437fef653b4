use Rattle.std.proofs.Common.{◌≡◌, ◌++◌, drop}
use Rattle.element_lang.specs.View.{body_tree}
use Rattle.chain_compose.specs.NamedFrom.{body_steps}
use Rattle.chain_compose.proofs.name_steps.+steps.Given as goal

abbrev pub invariant-put_body-loop-stmt : goal.invariant-put_body-loop-stmt
invariant-put_body-loop-stmt l =
    l.out.items ++ body_steps l.wired (body_tree (drop l.stmt-index l.body)) ≡ l.fn.out.items ++ body_steps l.wired (body_tree l.body)
