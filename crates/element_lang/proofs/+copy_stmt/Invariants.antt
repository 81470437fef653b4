use Rattle.std.proofs.Common.{◌≡◌, map, take}
use Rattle.element_lang.specs.View.{stmt_tree}
use Rattle.element_lang.proofs.+copy_stmt.Given as goal

abbrev pub invariant-copy::copy_body-loop-stmt : goal.invariant-copy::copy_body-loop-stmt
invariant-copy::copy_body-loop-stmt l = map stmt_tree l.copies.items ≡ map stmt_tree (take l.stmt-index l.body)
