use Rattle.std.proofs.Common.{◌≡◌, ◌+◌, ◌++◌, ◌∙◌, [], true, refl, sym, subst, ap}
use Rattle.output_commit.specs.declared.span.Span.{Span}
use Rattle.output_commit.specs.Batches.{fits}
use Rattle.output_commit.specs.Spans.{IsTallied, batch_in}
use Rattle.output_commit.proofs.BegunBatches.{Taking, first_in, taking_behind, taking_first, taking_next, taking_none, taking_updates}
use Rattle.output_commit.proofs.FitsByCount.{more_not}
use Rattle.output_commit.proofs.batches.take_up.Goals as goal

abbrev none : Span
none = record { first = 0; changes = 0; versions = 0 }

pub of-requires : goal.of-requires
of-requires c = first_in c.args.updates.now c.args.spans.now _ none c.requires.nonempty refl c.requires.joined

pub returns-then-not-count-clause-takes : goal.returns-then-not-count-clause-takes
returns-then-not-count-clause-takes c =
    let alone = c.if-not-count.ensures.fits [] c.clear.ensures.tallied refl in
    let not = sym alone ∙ refl in
    taking_none c.args.most c.args.updates.now c.args.spans.now _ (taking_first c.args.most c.args.updates.now c.args.spans.now _ none c.requires.nonempty refl c.requires.joined)
    (λ vs. more_not c.args.most _ vs (sym (ap (fits c.args.most) c.of.ensures) ∙ not))

pub loop-count-init : goal.loop-count-init
loop-count-init c = record {
  taking = taking_first c.args.most c.args.updates.now c.args.spans.now _ none c.requires.nonempty refl c.requires.joined;
  counted = subst (IsTallied c.count.new.self) c.of.ensures (c.if-not-count.ensures.tallied [] c.clear.ensures.tallied refl);
  held = sym (c.if-not-count.ensures.fits [] c.clear.ensures.tallied refl ∙ ap (fits c.args.most) c.of.ensures);
  tallied = c.count.ensures.kept c.args.updates.now (c.clear.ensures.kept c.args.updates.now c.requires.tallied);
}

pub of-requires-in-loop-count : goal.of-requires-in-loop-count
of-requires-in-loop-count c =
    (taking_behind c.args.most c.args.updates.now c.args.spans.now c.loop-count.span _ none c.loop-count.count c.loop-count.invariant.taking c.loop-count-test.true refl).second_in

pub loop-count-preserved : goal.loop-count-preserved
loop-count-preserved c =
    let us = c.args.updates.now in
    let inv = c.loop-count.invariant in
    let both = taking_updates c.args.most us c.args.spans.now c.loop-count.span _ none c.loop-count.count inv.taking c.loop-count-test.true refl in
    let so = sym (c.if-not-count-2.ensures.fits (batch_in us c.loop-count.span).updates inv.counted inv.held
    ∙ ap (λ l. fits c.args.most ((batch_in us c.loop-count.span).updates ++ l)) c.of-in-loop-count.ensures) in
    let counted = subst (λ l. IsTallied c.count-in-loop-count.new.self ((batch_in us c.loop-count.span).updates ++ l)) c.of-in-loop-count.ensures
    (c.if-not-count-2.ensures.tallied (batch_in us c.loop-count.span).updates inv.counted refl) in
    let is = c.joined-span.ensures in
    record {
      taking = subst (λ s. Taking c.args.most us c.args.spans.now s (c.loop-count.count + 1)) (sym is)
          (taking_next c.args.most us c.args.spans.now c.loop-count.span _ none c.loop-count.count inv.taking c.loop-count-test.true refl so);
      counted = subst (λ s. IsTallied c.count-in-loop-count.new.self (batch_in us s).updates) (sym is) (subst (IsTallied c.count-in-loop-count.new.self) (sym both) counted);
      held = subst (λ s. fits c.args.most (batch_in us s).updates ≡ true) (sym is) (ap (fits c.args.most) both ∙ so);
      tallied = c.count-in-loop-count.ensures.kept us inv.tallied;
    }
