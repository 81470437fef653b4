use Rattle.std.proofs.Common.{sym, ◌∙◌}
use Rattle.element_rules.proofs.LastEnds.{ends_last, second_ends, first_goes_on}
use Rattle.element_rules.proofs.ends.+ends.Goals as goal

pub always_ends-returns-then-ends_always : goal.always_ends-returns-then-ends_always
always_ends-returns-then-ends_always t c =
    λ text. second_ends text c.in-If.cond c.in-If.yes c.in-If.no c.in-If.is c.deref.ensures.value c.ends_always.result
    c.ends_always-then-ends_always.result c.deref-then-ends_always.ensures.value (c.ends_always.ensures text) c.if-ends_always.true
    (c.ends_always-then-ends_always.ensures text)

pub always_ends-returns-else-ends_always : goal.always_ends-returns-else-ends_always
always_ends-returns-else-ends_always t c =
    λ text. first_goes_on text c.in-If.cond c.in-If.yes c.in-If.no c.in-If.is c.deref.ensures.value c.ends_always.result (c.ends_always.ensures text)
    c.if-ends_always.false

pub ends_always-returns-in-len1-up : goal.ends_always-returns-in-len1-up
ends_always-returns-in-len1-up t c =
    λ text. c.always_ends.ensures text ∙ sym (ends_last text c.args.source.now c.last-item.result c.in-len1-up.len_at_least c.last-item.is)
