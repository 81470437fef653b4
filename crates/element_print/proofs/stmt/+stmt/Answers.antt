use Rattle.std.proofs.Common.{◌∙◌, sym, arith}
use Rattle.element_lang.specs.View.{tree}
use Rattle.element_print.proofs.Spaces.{spaces}
use Rattle.element_print.proofs.Ifs.{tokens_of_if, else_none, else_some}
use Rattle.element_print.proofs.stmt.+stmt.Goals as goal

pub put_else-returns-then-is_empty : goal.put_else-returns-then-is_empty
put_else-returns-then-is_empty t c =
    let e = else_none (tree c.args.m.now) c.args.body.now (sym c.is_empty.ensures ∙ c.if-is_empty.true) in
    grind (arith, spaces)

pub put_else-returns : goal.put_else-returns
put_else-returns t c =
    let e = else_some (tree c.args.m.now) c.args.body.now (sym c.is_empty.ensures ∙ c.if-is_empty.false) in
    grind (arith, spaces)

pub put_stmt-returns-in_ok-put_else-in-If : goal.put_stmt-returns-in_ok-put_else-in-If
put_stmt-returns-in_ok-put_else-in-If t c =
    let e = tokens_of_if (tree c.args.m.now) c.args.s.now c.in-If.cond c.in-If.yes c.in-If.no c.in-If.is in
    grind (arith, spaces)
