use Rattle.std.proofs.Common.{◌≡◌, ◌*◌, ℕ, arith, subst, refl}
use Rattle.element_chain.specs.Wiring.{is_joined}
use Rattle.chain_compose.proofs.Shown.{HasRows, shows_direct}
use Rattle.chain_compose.proofs.matrix.Reach.direct.Goals as goal

pub returns : goal.returns
returns c =
    let count = c.args.count in
    let all : c.loop-place.place ≡ count * count = omega (arith, c.loop-place.auto.place-end, c.loop-place-test.false) in
    shows_direct c.args.wires.now count _ refl (subst (λ (n : ℕ). HasRows c.loop-place.rows.items count (is_joined c.args.wires.now) n) all c.loop-place.invariant)
