use Rattle.std.proofs.Common.{map, ap, sym, ◌∙◌}
use Rattle.element_lang.specs.Surface as surface
use Rattle.element_grammar.specs.Surface.{surface_expr, surface_exprs}
use Rattle.element_rules.specs.Seen.{local_of}
use Rattle.element_rules.specs.Tested.{tested}
use Rattle.element_rules.proofs.ExprFaults.{testing_more}
use Rattle.element_rules.proofs.Levels.{literal_level, field_level, apply_level}
use Rattle.element_rules.proofs.expressions.+expression.Goals as goal

pub expression-returns-in-Literal : goal.expression-returns-in-Literal
expression-returns-in-Literal t c =
    let text = c.args.text.now in
    let locals = map local_of c.args.locals.now.entries in
    let level = ap (surface_expr text) c.in-Literal.is ∙ literal_level text c.in-Literal.value c.in-Literal.width in
    c.literal.ensures locals ∙ ap (tested locals) (sym level)

pub expression-returns-in-Field : goal.expression-returns-in-Field
expression-returns-in-Field t c =
    let text = c.args.text.now in
    let locals = map local_of c.args.locals.now.entries in
    let level = ap (surface_expr text) c.in-Field.is ∙ field_level text c.in-Field.name in
    c.field.ensures locals ∙ ap (tested locals) (sym level)

pub expression-returns-in_ok-args-in-Apply : goal.expression-returns-in_ok-args-in-Apply
expression-returns-in_ok-args-in-Apply t c =
    let text = c.args.text.now in
    let locals = map local_of c.args.locals.now.entries in
    let args = ap (λ es. surface.apply c.in-Apply.op c.in-Apply.width (surface_exprs text es)) c.deref-in-Apply.ensures.value in
    let level = ap (surface_expr text) c.in-Apply.is ∙ apply_level text c.in-Apply.op c.in-Apply.width c.in-Apply.args in
    c.apply.ensures locals (surface_exprs text c.deref-in-Apply.result.now) c.in_ok-args-in-Apply.ensures ∙ ap (tested locals) (args ∙ sym level)

pub expressions-loop-next-preserved : goal.expressions-loop-next-preserved
expressions-loop-next-preserved t c =
    testing_more c.loop-next.next-index c.next-item.result c.in_ok-made.made c.loop-next-test.true c.next-item.is c.loop-next.invariant
    c.in_ok-made.ensures c.in_ok-push.ensures.items c.and-faults.ensures
