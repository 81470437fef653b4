use Rattle.std.proofs.Common.{◌∙◌, ap, map, subst}
use Rattle.flatten.specs.Journal.{AreAssigned, second_at, with_first}
use Rattle.flatten.proofs.Journals.{sides_made}
use Rattle.flatten.proofs.sides.sides.Goals as goal

pub returns-clause-changes : goal.returns-clause-changes
returns-clause-changes c =
    let names = c.in_ok-names.names.items in
    let are = subst (λ l. AreAssigned l c.args.second.items names) c.deref.ensures.value (subst (λ l. AreAssigned c.deref.result.now l names) c.deref-2.ensures.value c.in_ok-names.ensures) in
    let seconds = c.in_ok-seconds.ensures ∙ ap (map (second_at c.args.locals.now)) c.deref-3.ensures.value in
    let changes = c.in_ok-changes.ensures ∙ ap (map (with_first c.undo-2.new.locals)) c.deref-4.ensures.value in
    sides_made c.args.first.items c.args.second.items c.args.locals.now c.undo.new.locals c.undo-2.new.locals names c.in_ok-seconds.seconds.items c.in_ok-changes.changes.items are seconds c.in_ok-undo.ensures.undone c.in_ok-back.ensures.undone changes
