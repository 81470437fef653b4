use Rattle.std.proofs.Common.{◌+◌, ◌*◌, ◌≤◌, length, take, drop, sym, ap, subst, ◌∙◌}
use Rattle.state_store.proofs.EvenLaws.{at_room, at_list, at_width}
use Rattle.state_store.proofs.even_lists.EvenLists.at.Goals as goal

pub list_at-requires : goal.list_at-requires
list_at-requires c =
    let o = c.self.inside in
    let p = c.args.place in
    subst (λ ns. p * o.width + o.width ≤ length ns) (sym c.deref.ensures.value)
    (at_room o.width o.count p o.numbers.items c.args.self.now c.self.view_is c.requires c.self.invariant)

pub returns-clause-list : goal.returns-clause-list
returns-clause-list c =
    let o = c.self.inside in
    let p = c.args.place in
    at_list o.width o.count p o.numbers.items c.list_at.result.now c.args.self.now c.self.view_is c.requires
    (c.list_at.ensures ∙ ap (λ ns. take o.width (drop (p * o.width) ns)) c.deref.ensures.value)

pub returns-clause-width : goal.returns-clause-width
returns-clause-width c =
    let o = c.self.inside in
    let p = c.args.place in
    at_width o.width o.count p o.numbers.items c.list_at.result.now c.args.self.now c.self.view_is c.requires c.self.invariant
    (c.list_at.ensures ∙ ap (λ ns. take o.width (drop (p * o.width) ns)) c.deref.ensures.value)
