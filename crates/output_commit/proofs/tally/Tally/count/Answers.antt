use Rattle.std.proofs.Common.{◌≡◌, ◌+◌, ◌++◌, ◌∙◌, true, sym, subst, ap, arith, take}
use Rattle.std.proofs.lemmas.List.{length-set, take_all}
use Rattle.writeback_table.specs.Batches.{count_of}
use Rattle.output_commit.specs.Batches.{fits}
use Rattle.output_commit.proofs.ChangeCounts.{count_next, full, get_same, next_fits, next_tallied, same_tallied, tallied_at}
use Rattle.output_commit.proofs.tally.Tally.count.Goals as goal

pub returns-then-index-most-clause-fits : goal.returns-then-index-most-clause-fits
returns-then-index-most-clause-fits c = λ before counted so.
    let us = c.args.updates.now in
    let i = c.loop-update.update-index in
    let u = c.update-item.result in
    let inv = c.loop-update.invariant in
    let there = tallied_at c.args.self.now us i u c.requires.room c.loop-update-test.true c.update-item.is in
    let size = inv.size in
    let here = inv.counted before counted u.object (omega arith) in
    let read = c.index.ensures in
    let same = get_same c.loop-update.self.counts.items u.object 0 c.index.result.now (omega arith) in
    let many = c.if-index-most.true in
    sym (full before us c.args.most i u c.loop-update-test.true c.update-item.is (omega arith))

pub returns-then-index-most-clause-kept : goal.returns-then-index-most-clause-kept
returns-then-index-most-clause-kept c = λ others h. same_tallied c.args.self.now c.loop-update.self c.loop-update.invariant.size others h

pub loop-update-preserved : goal.loop-update-preserved
loop-update-preserved c =
    let us = c.args.updates.now in
    let i = c.loop-update.update-index in
    let u = c.update-item.result in
    let inv = c.loop-update.invariant in
    let counts = c.loop-update.self.counts.items in
    let there = tallied_at c.args.self.now us i u c.requires.room c.loop-update-test.true c.update-item.is in
    let size = inv.size in
    let read = c.index.ensures in
    let same = get_same counts u.object 0 c.index.result.now (omega arith) in
    let value = c.index_mut.ensures.value in
    let again = get_same counts u.object 0 c.index_mut.result.now (omega arith) in
    let few = c.if-index-most.false in
    record {
      size = length-set counts u.object (c.index_mut.result.now + 1) ∙ inv.size;
      counted = λ before h.
          let here = inv.counted before h u.object (omega arith) in
          next_tallied counts u.object (c.index_mut.result.now + 1) (λ k. count_of k (before ++ take i us)) (λ k. count_of k (before ++ take (i + 1) us))
          (omega arith) (inv.counted before h) (omega arith) (λ k. count_next before us i u k c.loop-update-test.true c.update-item.is);
      few = λ before h so.
          let here = inv.counted before h u.object (omega arith) in
          next_fits before us c.args.most i u c.loop-update-test.true c.update-item.is (omega arith) (inv.few before h so);
    }

pub returns-clause-fits : goal.returns-clause-fits
returns-clause-fits c = λ before h so.
    let all = take_all c.loop-update.update-index c.args.updates.now c.loop-update-test.false in
    sym (subst (λ l. fits c.args.most (before ++ l) ≡ true) all (c.loop-update.invariant.few before h so))

pub returns-clause-tallied : goal.returns-clause-tallied
returns-clause-tallied c = λ before h yes o low.
    let all = take_all c.loop-update.update-index c.args.updates.now c.loop-update-test.false in
    c.loop-update.invariant.counted before h o low ∙ ap (λ l. count_of o (before ++ l)) all

pub returns-clause-kept : goal.returns-clause-kept
returns-clause-kept c = λ others h. same_tallied c.args.self.now c.loop-update.self c.loop-update.invariant.size others h
