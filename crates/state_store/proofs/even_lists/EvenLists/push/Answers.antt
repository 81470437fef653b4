use Rattle.std.proofs.Common.{◌+◌, ◌++◌, refl, ◌∙◌}
use Rattle.std.proofs.lemmas.List.{length-append}
use Rattle.state_store.proofs.EvenLaws.{push_list, push_length}
use Rattle.state_store.proofs.even_lists.EvenLists.push.Goals as goal

pub invariant_of-self-2 : goal.invariant_of-self-2
invariant_of-self-2 c =
    let o = c.self.inside in
    let l = c.args.front.now ++ c.args.back.now in
    push_length o.width o.count (o.count + 1) o.numbers.items c.append.new.numbers.items l c.args.self.now c.self.view_is refl c.self.invariant
    (length-append c.args.front.now c.args.back.now ∙ c.requires) c.in_ok-append.ensures.ok

pub returns-clause-ok : goal.returns-clause-ok
returns-clause-ok c =
    let o = c.self.inside in
    let l = c.args.front.now ++ c.args.back.now in
    push_list o.width o.count (o.count + 1) o.numbers.items c.append.new.numbers.items l c.args.self.now c.self.view_is refl c.self.invariant
    (length-append c.args.front.now c.args.back.now ∙ c.requires) c.in_ok-append.ensures.ok
