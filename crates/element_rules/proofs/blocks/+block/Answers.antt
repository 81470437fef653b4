use Rattle.std.proofs.Common.{◌≡◌, true, length, IfOk, Option, refl, sym, ap, ◌∙◌, subst, rules}
use Rattle.element_lang.specs.declared.broken.Broken.{Broken}
use Rattle.element_lang.specs.Broken as broken
use Rattle.element_grammar.specs.Surface.{surface_body}
use Rattle.element_rules.specs.declared.names.Sight.{Sight}
use Rattle.element_rules.proofs.BlockFaults.{own_found, inner_found, walking_more, walked_out, first_block, second_block, repeated_block, counting, repeated_out}
use Rattle.element_rules.proofs.blocks.+block.Goals as goal

pub broken_in-returns-then-is_some-clause-found : goal.broken_in-returns-then-is_some-clause-found
broken_in-returns-then-is_some-clause-found t c =
    own_found c.loop-next.next-index c.next-item.result c.loop-next-test.true c.next-item.is c.loop-next.invariant
    c.in_ok-faults.ensures.faults
    c.broken_by-own.result c.broken_by-own.ensures (sym c.is_some.ensures ∙ c.if-is_some.true)

pub broken_in-returns-then-is_some-2-clause-found :
    goal.broken_in-returns-then-is_some-2-clause-found
broken_in-returns-then-is_some-2-clause-found t c =
    inner_found c.loop-next.next-index c.next-item.result c.loop-next-test.true c.next-item.is c.loop-next.invariant
    c.in_ok-faults.ensures.faults
    c.broken_by-own.result c.broken_by-own.ensures (sym c.is_some.ensures ∙ c.if-is_some.false) c.statement.new.sight c.in_ok-faults.ensures.sight
    c.in_ok-inner.inner c.in_ok-inner.ensures.found
    (sym c.is_some-in-loop-next.ensures ∙ c.if-is_some-2.true)

pub broken_in-loop-next-preserved : goal.broken_in-loop-next-preserved
broken_in-loop-next-preserved t c =
    walking_more c.loop-next.next-index c.next-item.result c.loop-next-test.true c.next-item.is c.loop-next.invariant
    c.in_ok-faults.ensures.faults
    c.broken_by-own.result c.broken_by-own.ensures (sym c.is_some.ensures ∙ c.if-is_some.false) c.statement.new.sight c.in_ok-faults.ensures.sight
    c.in_ok-inner.inner c.in_ok-inner.ensures.found
    c.broken_within.new.sight c.always_ends-ended.result (sym c.is_some-in-loop-next.ensures ∙ c.if-is_some-2.false) c.in_ok-inner.ensures.sight
    (c.always_ends-ended.ensures c.args.text.now)

pub broken_in-returns-clause-sight : goal.broken_in-returns-clause-sight
broken_in-returns-clause-sight t c =
    let outer : c.len-outer.result ≡ length c.args.sight.now.locals.entries = search rules in
    λ _. walked_out (record { locals = c.truncate.new.self; repeated = c.loop-next.sight.repeated }) c.len-outer.result c.loop-next.invariant outer
    c.truncate.ensures.entries refl

pub broken_in_repeat-returns-clause-found : goal.broken_in_repeat-returns-clause-found
broken_in_repeat-returns-clause-found t c =
    let text = c.args.text.now in
    let word = c.in_ok-word.word in
    let pushed : Sight = record { locals = c.insert.new.self; repeated = true } in
    let seen = counting text c.args.objects.now c.args.sight.now pushed c.args.index word c.insert.new.self.entries (sym c.in_ok-word.ensures) c.requires
    c.in_ok-insert.ensures.entries refl refl in
    c.in_ok-found.ensures.found ∙ ap (λ x. broken.broken_in x (surface_body text c.args.source.now)) seen

pub broken_in_repeat-returns-clause-sight : goal.broken_in_repeat-returns-clause-sight
broken_in_repeat-returns-clause-sight t c =
    let text = c.args.text.now in
    let before = c.args.sight.now in
    let outer : c.len-outer.result ≡ length before.locals.entries = search rules in
    let word = c.in_ok-word.word in
    let pushed : Sight = record { locals = c.insert.new.self; repeated = true } in
    let seen = counting text c.args.objects.now before pushed c.args.index word c.insert.new.self.entries (sym c.in_ok-word.ensures) c.requires c.in_ok-insert.ensures.entries refl refl in
    λ none. repeated_out text c.args.objects.now before c.broken_in.new.sight
    (record { locals = c.truncate.new.self; repeated = before.repeated }) c.args.index c.len-outer.result
    (c.in_ok-found.ensures.sight none ∙ seen) outer c.truncate.ensures.entries refl

pub broken_within-returns-then-is_some-clause-found :
    goal.broken_within-returns-then-is_some-clause-found
broken_within-returns-then-is_some-clause-found t c =
    first_block c.args.text.now c.args.objects.now c.args.sight.now c.in-If.cond c.in-If.yes c.in-If.no c.in-If.is c.deref.ensures.value
    c.in_ok-found-in-If.found c.in_ok-found-in-If.ensures.found (sym c.is_some.ensures ∙ c.if-is_some.true)

pub broken_within-returns-else-is_some-clause-found :
    goal.broken_within-returns-else-is_some-clause-found
broken_within-returns-else-is_some-clause-found t c =
    let level = second_block c.args.text.now c.args.objects.now c.args.sight.now c.in-If.cond c.in-If.yes c.in-If.no c.in-If.is c.deref.ensures.value
    c.broken_in.new.sight c.in_ok-found-in-If.found c.deref-in-If.ensures.value c.in_ok-found-in-If.ensures.found (sym c.is_some.ensures
    ∙ c.if-is_some.false) c.in_ok-found-in-If.ensures.sight in
    subst (λ (x : Option Broken). IfOk c.broken_in-in-If.result (λ (found : Option Broken). found ≡ x)) level c.broken_in-in-If.ensures.found

pub broken_within-returns-in-Repeat-clause-found :
    goal.broken_within-returns-in-Repeat-clause-found
broken_within-returns-in-Repeat-clause-found t c =
    let level = repeated_block c.args.text.now c.args.objects.now c.args.sight.now c.in-Repeat.index c.in-Repeat.count c.in-Repeat.body c.in-Repeat.is
    c.deref-in-Repeat.ensures.value in
    subst (λ (x : Option Broken). IfOk c.broken_in_repeat.result (λ (found : Option Broken). found ≡ x)) level c.broken_in_repeat.ensures.found
