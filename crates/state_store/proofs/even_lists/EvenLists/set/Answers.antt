use Rattle.std.proofs.Common.{◌≡◌, ◌+◌, ◌*◌, ◌≤◌, ◌++◌, length, take, drop, sym, ap, subst, ◌∙◌, arith}
use Rattle.std.specs.Vec.{with_items}
use Rattle.std.proofs.lemmas.List.{with_items_is}
use Rattle.state_store.proofs.EvenLaws.{set_room, set_list}
use Rattle.state_store.proofs.even_lists.EvenLists.set.Goals as goal

pub write_at-requires : goal.write_at-requires
write_at-requires c =
    let o = c.self.inside in
    let l = c.args.list.now in
    subst (λ ns. c.args.place * length l + length l ≤ length ns) (sym c.deref_mut.ensures.value)
    (set_room o.width o.count c.args.place o.numbers.items l c.args.self.now c.self.view_is c.requires.within c.self.invariant c.requires.width)

pub returns : goal.returns
returns c =
    let o = c.self.inside in
    let l = c.args.list.now in
    let start = c.args.place * length l in
    let now = c.write_at.new.numbers in
    let long : length now ≡ o.numbers.len = omega (arith, c.write_at.auto.numbers, c.deref_mut.ensures.len) in
    let items = with_items_is o.numbers now long ∙ c.write_at.ensures ∙ ap (λ x. take start x ++ (l ++ drop (start + length l) x)) c.deref_mut.ensures.value in
    set_list o.width o.count c.args.place o.numbers.items (with_items o.numbers now).items l c.args.self.now c.self.view_is c.requires.within c.self.invariant c.requires.width items
