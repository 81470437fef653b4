use Rattle.std.proofs.Common.{[], ℕ, List, sym, subst}
use Rattle.lossy_link.specs.Marks.{IsCounted}
use Rattle.lossy_link.proofs.Counts.{counted_first}
use Rattle.lossy_link.proofs.marks.Marks.new.Goals as goal

pub invariant_of-result : goal.invariant_of-result
invariant_of-result c =
    subst (λ marks. IsCounted marks c.new-2.result.items 0) (sym c.new.ensures.items) (subst (λ (counts : List ℕ). IsCounted [] counts 0) (sym c.new-2.ensures.items) counted_first)
