use Rattle.std.proofs.Common.{◌≡◌, ◌*◌, ℕ, arith, subst, refl}
use Rattle.chain_compose.specs.Reach.{is_shown_by}
use Rattle.chain_compose.proofs.Shown.{HasRows, shows_more}
use Rattle.chain_compose.proofs.matrix.Reach.by_way.Goals as goal

pub returns : goal.returns
returns c =
    let count = c.args.self.now.count in
    let all : c.loop-place.place ≡ count * count = omega (arith, c.loop-place.auto.place-end, c.loop-place-test.false) in
    λ wires shows. shows_more wires count c.args.through c.args.self.now _ c.requires.within refl
    (subst (λ (n : ℕ). HasRows c.loop-place.rows.items count (is_shown_by c.args.self.now c.args.through) n) all c.loop-place.invariant) shows
