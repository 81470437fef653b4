use Rattle.std.proofs.Common.{ℕ, length, replicate, ap, ap₂, ◌∙◌, arith}
use Rattle.std.proofs.lemmas.List.{length-replicate}
use Rattle.state_store.specs.Placed.{placed_rows}
use Rattle.state_store.specs.Store.{Contents}
use Rattle.state_store.proofs.PlacedLaws.{placed_zeros}
use Rattle.state_store.proofs.placed_rows.PlacedRows.new.Goals as goal

pub invariant_of-result : goal.invariant_of-result
invariant_of-result c =
    let width = ap (λ e. e.width) c.in_ok-rows.ensures ∙ c.len.ensures.value in
    (width, omega (arith, width, c.len.ensures.small))

pub returns : goal.returns
returns c =
    let ws = c.args.keys.now in
    let vs = c.args.values.now in
    let lists = ap (λ e. e.lists) c.in_ok-rows.ensures ∙ ap (λ w. replicate c.args.size (replicate w 0)) c.len.ensures.value in
    ap (placed_rows ws vs) lists
    ∙ ap₂ (λ (n : ℕ) (m : Contents). record { keys = ws; values = vs; capacity = n; contents = m })
    (length-replicate c.args.size (replicate (length vs) 0)) (placed_zeros c.args.size (length vs))
