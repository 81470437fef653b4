use Rattle.std.proofs.Common.{◌++◌, ◌∙◌, ap}
use Rattle.flatten.specs.Journal.{entry_locals}
use Rattle.flatten.proofs.Journals.{assigned_told}
use Rattle.flatten.proofs.sides.assigned.Goals as goal

pub returns : goal.returns
returns c =
    let es = c.args.first.now in
    let fs = c.args.second.now in
    let first = c.in_ok-push_locals.ensures ∙ ap (λ l. l ++ entry_locals es) c.new-locals.ensures.items in
    let all = c.in_ok-push_locals-2.ensures ∙ ap (λ l. l ++ entry_locals fs) first in
    assigned_told es fs _ c.sort.new.self.items _ all c.sort.ensures.permutation c.in_ok-sort.ensures.sorted c.dedup.ensures.filtered
