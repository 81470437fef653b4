use Rattle.std.proofs.Common.{ap, ◌∙◌}
use Rattle.state_store.specs.Even.{cut}
use Rattle.state_store.proofs.EvenLaws.{cut_zeros}
use Rattle.state_store.proofs.even_lists.EvenLists.zeros.Goals as goal

pub returns : goal.returns
returns c =
    let w = c.args.width in
    let n = c.args.count in
    ap (λ ns. record { width = w; lists = cut w n ns }) (c.in_ok-vec.ensures.items_if_clones_equal (λ x e. e)) ∙ ap (λ ls. record { width = w; lists = ls }) (cut_zeros w n)
