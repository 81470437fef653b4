use Rattle.std.proofs.Common.{subst}
use Rattle.std.specs.List.Sorted.{IsPermutation}
use Rattle.run_model.proofs.SerialOrder.{sorted_by_std}
use Rattle.run_model.proofs.serial.all_sorted.Goals as goal

pub returns : goal.returns
returns c =
    let made = c.sort_unstable.new.self.items in
    sorted_by_std c.args.fates.now made (subst (λ given. IsPermutation given made) c.in_ok-decided.ensures c.sort_unstable.ensures.permutation) c.sort_unstable.ensures.sorted
