use Rattle.std.proofs.Common.{◌≡◌, ◌+◌, ℕ, suc, subst, arith}
use Rattle.chain_text.specs.Reached.{LeadsBy}
use Rattle.chain_text.proofs.reach.Reach.new.Goals as goal

pub loop-way-preserved : goal.loop-way-preserved
loop-way-preserved c =
    let next : suc c.loop-way.way ≡ c.loop-way.way + 1 = omega arith in
    let P : ℕ → Type 0 = λ n. LeadsBy c.args.wires.now c.args.count n c.in_ok-reach-2.reach in
    subst P next (c.in_ok-reach-2.ensures c.args.wires.now c.args.count c.loop-way.invariant)
