use Rattle.std.proofs.Common.{◌+◌, ◌∙◌, ℕ, List, ◌++◌, length, sym, ap, arith, take}
use Rattle.element_lang.specs.declared.tree.Middlebox.{Middlebox}
use Rattle.element_lang.specs.Tree.{Tree}
use Rattle.element_lang.specs.View.{body_tree}
use Rattle.element_print.specs.Lengths.{capped}
use Rattle.element_chain.specs.declared.chain.Target.{Target}
use Rattle.element_chain.specs.declared.chain.Wire.{Wire}
use Rattle.element_chain.specs.declared.chain.Target.TheVariants.{Element}
use Rattle.chain_compose.specs.declared.gauge.Gauge.TheVariants.{Locals, Uses}
use Rattle.chain_compose.specs.declared.name_steps.Step.{Step}
use Rattle.chain_compose.specs.Counts.{end_count}
use Rattle.chain_compose.specs.NamedFrom.{body_steps, all_stepped, started, end_from}
use Rattle.chain_compose.specs.Parts.{chain_of}
use Rattle.chain_compose.proofs.Trees.{tree_at}
use Rattle.chain_compose.proofs.NamedCode.{all_good, large_end, small_end, walked_end, next_tested, sent_tally, stepped_tally, element_tally, told_after, wires_within, within_at}
use Rattle.chain_compose.proofs.RoutesAt.{own_wires}
use Rattle.chain_compose.proofs.parts.Parts.+named.Goals as goal

-- ## the end of a wire
pub end_from-returns-then-tables-before : goal.end_from-returns-then-tables-before
end_from-returns-then-tables-before t c = λ exact is.
    let parts = c.args.self.now in
    let wire = c.args.wire.now in
    large_end (chain_of parts) (all_good parts) c.args.tables.now.least c.args.levels wire.to wire.input c.args.before exact c.at.result c.if-tables-before.true is
    (c.at.ensures ∙ told_after Uses (chain_of parts) (length parts.classes.now) c.args.tables.now.uses.now c.args.levels c.in-Element.element wire.input wire.to c.requires.told.uses c.requires.levels_fit c.requires.target_in_range c.in-Element.is)

pub end_from-returns-then-saturating_add-tables : goal.end_from-returns-then-saturating_add-tables
end_from-returns-then-saturating_add-tables t c = λ exact is.
    let parts = c.args.self.now in
    let wire = c.args.wire.now in
    small_end (chain_of parts) (all_good parts) c.args.tables.now.least c.args.levels wire.to wire.input c.args.before exact c.at-span.result (omega arith) is
    (c.at-span.ensures ∙ told_after Locals (chain_of parts) (length parts.classes.now) c.args.tables.now.locals.now c.args.levels c.in-Element.element wire.input wire.to c.requires.told.locals c.requires.levels_fit c.requires.target_in_range c.in-Element.is)
    (omega (arith, c.saturating_add.ensures, c.if-saturating_add-tables.true))

pub end_from-returns-in_ok-count-in-Element : goal.end_from-returns-in_ok-count-in-Element
end_from-returns-in_ok-count-in-Element t c = λ exact is.
    let parts = c.args.self.now in
    let wire = c.args.wire.now in
    walked_end (chain_of parts) c.args.tables.now.least c.args.levels c.in-Element.element wire.input c.args.before exact _ (omega arith) c.if-tables-before.false is c.if-levels-gt0.true c.in_ok-count-in-Element.ensures
    ∙ sym (ap (λ (u : Target). capped (end_from (chain_of parts) c.args.tables.now.least c.args.levels u wire.input exact)) c.in-Element.is)

-- ## what stands for a `send`
pub sent_from-loop-wire-preserved : goal.sent_from-loop-wire-preserved
sent_from-loop-wire-preserved t c = λ numbers n told.
    let parts = c.args.self.now in
    let i = c.loop-wire.wire-index in
    let d : Wire = record { from = 0; output = 0; input = 0; to = Element 0 } in
    let least = c.args.tables.now.least in
    next_tested least (omega arith) (end_count Locals (chain_of parts) c.args.levels) (end_from (chain_of parts) least c.args.levels) n c.args.wires.now i d numbers c.args.tally c.loop-wire.made _
    c.is_from-own.result c.in_ok-behind.behind c.end_span.result c.loop-wire-test.true c.is_from-own.ensures c.in_ok-behind.ensures
    (c.end_span.ensures (chain_of parts) (length parts.classes.now) c.requires.told.locals c.requires.levels_fit (within_at (length parts.classes.now) c.args.wires.now i d c.requires.all_there c.loop-wire-test.true))
    c.saturating_add-in-loop-wire.ensures
    (c.saturating_add-in-loop-wire-3.ensures ∙ ap (λ (k : ℕ). capped (c.loop-wire.made.count + k)) c.saturating_add-in-loop-wire-2.ensures)
    told (c.loop-wire.invariant numbers n told)

pub sent_from-returns : goal.sent_from-returns
sent_from-returns t c = λ numbers n told.
    let parts = c.args.self.now in
    let least = c.args.tables.now.least in
    sent_tally least (end_count Locals (chain_of parts) c.args.levels) (end_from (chain_of parts) least c.args.levels) c.args.wires.now c.loop-wire.wire-index numbers c.args.tally c.loop-wire.made n c.loop-wire-test.false told (c.loop-wire.invariant numbers n told)

-- ## an element
pub element_from-step_from-requires : goal.element_from-step_from-requires
element_from-step_from-requires t c =
    (omega arith, (c.requires.told, (c.requires.levels_fit, (c.requires.within, wires_within c.args.self.now c.args.element c.of-wires.result.now c.requires.element_in_range c.of-wires.ensures c.requires.within))))

pub element_from-loop-step-preserved : goal.element_from-loop-step-preserved
element_from-loop-step-preserved t c =
    let parts = c.args.self.now in
    let least = c.args.tables.now.least in
    let span = end_count Locals (chain_of parts) c.args.levels in
    let from = end_from (chain_of parts) least c.args.levels in
    let ss = c.deref-step-items.result.now in
    let i = c.loop-step.step-index in
    stepped_tally least span from c.of-wires.result.now ss i _ (started c.args.before) _ _ c.loop-step-test.true
    (c.in_ok-tally.ensures (all_stepped least span from c.of-wires.result.now (take i ss) (started c.args.before)) c.loop-step.invariant)

pub element_from-returns : goal.element_from-returns
element_from-returns t c =
    let parts = c.args.self.now in
    let e = c.args.element in
    let m = c.index-self-element.result in
    let least = c.args.tables.now.least in
    let b = body_tree c.deref.result.now in
    element_tally (chain_of parts) least (end_count Locals (chain_of parts) c.args.levels) (end_from (chain_of parts) least c.args.levels) e c.args.before c.loop-step.step-index
    c.of-wires.result.now c.has_wires-wired.result b c.deref-step-items.result.now c.put_body.new.out.items _ _ c.loop-step-test.false
    (own_wires parts e c.of-wires.result.now c.requires.element_in_range c.of-wires.ensures)
    c.has_wires-wired.ensures
    (ap body_tree (c.deref.ensures.value ∙ ap (λ (k : Middlebox). k.body.items) (sym c.index-self-element.is)) ∙ ap (λ (t : Tree). t.body) (sym (tree_at parts.classes.now e m c.requires.element_in_range c.index-self-element.is)))
    c.deref-step-items.ensures.value
    (c.in_ok-put_body.ensures ∙ ap (λ (ss : List Step). ss ++ body_steps c.has_wires-wired.result b) c.new-steps.ensures.items)
    c.loop-step.invariant
