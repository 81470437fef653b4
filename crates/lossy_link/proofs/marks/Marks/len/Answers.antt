use Rattle.std.proofs.Common.{length, sym, ap, ◌∙◌}
use Rattle.lossy_link.specs.Marks.{numbers_set}
use Rattle.lossy_link.proofs.Counts.{numbers_long}
use Rattle.lossy_link.proofs.marks.Marks.len.Goals as goal

pub returns : goal.returns
returns c =
    c.self.invariant.all ∙ (sym (numbers_long 0 c.self.inside.marks.items) ∙ ap (λ marks. length (numbers_set 0 marks)) c.self.view_is)
