use Rattle.std.proofs.Common.{◌≡◌, ◌+◌, suc, ℕ, sym, arith, subst}
use Rattle.chain_compose.specs.Reach.{ShowsBy}
use Rattle.chain_compose.proofs.matrix.Reach.new.Goals as goal

pub loop-through-preserved : goal.loop-through-preserved
loop-through-preserved c =
    let wires = c.args.wires.now in
    let i = c.loop-through.through in
    let before = c.loop-through.reach in
    let now = c.in_ok-reach-2.reach in
    let size = c.loop-through.invariant.size in
    let next : suc i ≡ i + 1 = omega arith in
    subst (λ (k : ℕ). ShowsBy wires c.args.count k now) next
    (subst (λ (k : ℕ). ShowsBy wires k (suc i) now) size
    (c.in_ok-reach-2.ensures wires (subst (λ (k : ℕ). ShowsBy wires k i before) (sym size) c.loop-through.invariant)))
