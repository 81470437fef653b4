use Rattle.std.proofs.Common.{ap}
use Rattle.state_store.specs.Store.{Contents}
use Rattle.state_store.proofs.KeptLaws.{new_contents}
use Rattle.state_store.proofs.kept_rows.KeptRows.new.Goals as goal

pub returns : goal.returns
returns c =
    ap (λ (m : Contents). record { size = c.args.size; contents = m })
    (new_contents c.args.keys.now c.args.values.now c.args.size c.in_ok-packed.packed c.in_ok-sorted.sorted.items c.in_ok-packed.ensures c.in_ok-sorted.ensures.items)
