use Rattle.std.proofs.Common.{length, sym, ap, ◌∙◌}
use Rattle.state_store.proofs.EvenLaws.{cut_length}
use Rattle.state_store.proofs.even_lists.EvenLists.len.Goals as goal

pub returns : goal.returns
returns c = let o = c.self.inside in sym (cut_length o.width o.count o.numbers.items) ∙ ap (λ e. length e.lists) c.self.view_is
