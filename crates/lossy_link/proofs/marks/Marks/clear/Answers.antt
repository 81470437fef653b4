use Rattle.std.proofs.Common.{ap, ◌∙◌}
use Rattle.std.specs.Prelude.{slice_get}
use Rattle.lossy_link.proofs.Counts.{counted_less}
use Rattle.lossy_link.proofs.marks.Marks.clear.Goals as goal

pub overflow_sub-self : goal.overflow_sub-self
overflow_sub-self c =
    (counted_less c.self.inside.marks.items c.self.inside.counts.items c.lower.new.counts.items c.self.inside.total c.args.number c.self.invariant (ap (λ marks. slice_get marks c.args.number) c.self.view_is ∙ c.requires) c.lower.ensures.long c.lower.ensures.counted).0

pub invariant_of-self : goal.invariant_of-self
invariant_of-self c =
    (counted_less c.self.inside.marks.items c.self.inside.counts.items c.lower.new.counts.items c.self.inside.total c.args.number c.self.invariant (ap (λ marks. slice_get marks c.args.number) c.self.view_is ∙ c.requires) c.lower.ensures.long c.lower.ensures.counted).1
