use Rattle.std.proofs.Common.{◌≡◌, ◌+◌, ◌-◌, ◌/◌, length, get_or, refl, ap, ◌∙◌, arith}
use Rattle.std.proofs.lemmas.List.{get_or_read_under}
use Rattle.lossy_link.proofs.Counts.{lowered_left, lowered_none, lowered_right, lowered_short}
use Rattle.lossy_link.proofs.marks.+lower.Goals as goal

pub returns-then-span-le1-clause-counted : goal.returns-then-span-le1-clause-counted
returns-then-span-le1-clause-counted t c =
    lowered_none c.args.counts.now.items c.args.start c.args.span c.args.number c.if-span-le1.true

pub returns-then-number-middle-clause-counted : goal.returns-then-number-middle-clause-counted
returns-then-number-middle-clause-counted t c =
    lowered_right c.args.counts.now.items c.lower.new.counts.items c.args.start c.args.span c.args.number
    c.if-span-le1.false c.if-number-middle.true c.lower.ensures.long c.lower.ensures.before c.lower.ensures.counted

pub returns-then-middle-len-clause-counted : goal.returns-then-middle-len-clause-counted
returns-then-middle-len-clause-counted t c =
    let e = c.lower-then-middle-len.ensures in
    lowered_short c.args.counts.now.items c.lower-then-middle-len.new.counts.items c.args.start c.args.span c.args.number
    c.if-span-le1.false (omega (arith, c.if-number-middle.false)) (omega (arith, c.if-middle-len.true, c.len.ensures)) e.long e.counted

pub returns-clause-counted : goal.returns-clause-counted
returns-clause-counted t c =
    let e = c.lower-2.ensures in
    let read : c.index.result.now ≡ get_or c.args.counts.now.items (c.args.start + c.args.span / 2 - 1) 0 =
    get_or_read_under c.args.counts.now.items (c.args.start + c.args.span / 2 - 1) (length c.args.counts.now.items) c.index.result.now 0 c.index.ensures (omega (arith, c.if-middle-len.false, c.len.ensures, c.if-span-le1.false)) refl in
    lowered_left c.args.counts.now.items c.lower-2.new.counts.items c.args.start c.args.span c.args.number c.saturating_sub.result
    c.if-span-le1.false (omega (arith, c.if-number-middle.false)) (omega (arith, c.if-middle-len.false, c.len.ensures)) (c.saturating_sub.ensures ∙ ap (λ n. n - 1) read) e.long e.behind e.counted
