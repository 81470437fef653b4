use Rattle.std.proofs.Common.{◌≡◌, ◌++◌, drop}
use Rattle.element_lang.specs.Surface.{named_body}
use Rattle.element_lang.specs.View.{tree, body_tree}
use Rattle.element_print.specs.Printed.{body_tokens}
use Rattle.element_print.specs.Spaced.{spaced}
use Rattle.element_print.proofs.stmt.+stmt.Given as goal

-- the statements that are left give what all gave at the start
abbrev pub invariant-put_body-loop-s : goal.invariant-put_body-loop-s
invariant-put_body-loop-s l =
    l.out ++ spaced (body_tokens (named_body (tree l.m) (body_tree (drop l.s-index l.body))))
    ≡ l.initial.out ++ spaced (body_tokens (named_body (tree l.m) (body_tree l.body)))
