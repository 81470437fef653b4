use Rattle.std.proofs.Common.{◌+◌, ◌/◌, ℕ, suc, subst, arith}
use Rattle.lossy_link.specs.Marks.{IsCountBehind}
use Rattle.lossy_link.proofs.Counts.{behind_here, behind_left, behind_right, none_behind}
use Rattle.lossy_link.proofs.marks.+set_from.Goals as goal

pub returns-then-span-le1-clause-counted : goal.returns-then-span-le1-clause-counted
returns-then-span-le1-clause-counted t c =
    none_behind c.args.counts.now c.args.start c.args.span c.args.left c.if-span-le1.true

pub returns-then-middle-counts-clause-counted : goal.returns-then-middle-counts-clause-counted
returns-then-middle-counts-clause-counted t c =
    behind_left c.args.counts.now c.args.start c.args.span c.args.left (suc c.set_from.result)
    c.if-span-le1.false (omega (arith, c.if-middle-counts.true)) c.set_from.ensures.counted

pub returns-then-middle-counts-2-clause-counted : goal.returns-then-middle-counts-2-clause-counted
returns-then-middle-counts-2-clause-counted t c =
    behind_here c.args.counts.now c.args.start c.args.span c.args.left
    c.if-span-le1.false (omega (arith, c.if-middle-counts.false, c.if-middle-counts-2.true))

pub returns-clause-counted : goal.returns-clause-counted
returns-clause-counted t c =
    behind_right c.args.counts.now c.args.start c.args.span c.args.left (suc c.set_from-2.result)
    c.if-span-le1.false (omega (arith, c.if-middle-counts-2.false))
    (subst (λ (left : ℕ). IsCountBehind c.args.counts.now (c.args.start + c.args.span / 2) (c.args.span / 2) left (suc c.set_from-2.result)) c.saturating_sub.ensures c.set_from-2.ensures.counted)
