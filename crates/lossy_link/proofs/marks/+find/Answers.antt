use Rattle.std.proofs.Common.{arith}
use Rattle.lossy_link.proofs.Counts.{found_left, found_right}
use Rattle.lossy_link.proofs.marks.+find.Goals as goal

pub returns-then-middle-counts-clause-found : goal.returns-then-middle-counts-clause-found
returns-then-middle-counts-clause-found t c =
    found_left c.args.counts.now c.args.start c.args.span c.args.j c.find.result c.if-span-le1.false
    (λ inside. absurd (omega (arith, inside, c.if-middle-counts.true))) c.find.ensures.found

pub returns-then-count-j-clause-found : goal.returns-then-count-j-clause-found
returns-then-count-j-clause-found t c =
    found_left c.args.counts.now c.args.start c.args.span c.args.j c.find-then-count-j.result c.if-span-le1.false
    (λ inside. c.if-count-j.true) c.find-then-count-j.ensures.found

pub returns-clause-found : goal.returns-clause-found
returns-clause-found t c =
    found_right c.args.counts.now c.args.start c.args.span c.args.j c.find-2.result c.if-span-le1.false
    (omega (arith, c.if-middle-counts.false)) (omega (arith, c.if-count-j.false)) c.find-2.ensures.found
