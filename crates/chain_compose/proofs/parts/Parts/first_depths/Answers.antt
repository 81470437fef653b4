use Rattle.std.proofs.Common.{◌≡◌, ◌∙◌, ℕ, length, replicate, ap, arith}
use Rattle.chain_compose.proofs.DeepCaps.{first_depths}
use Rattle.chain_compose.proofs.parts.Parts.first_depths.Goals as goal

pub returns : goal.returns
returns c =
    let all : c.loop.counter ≡ length c.args.self.now.classes.now = omega (arith, c.loop.invariant.within, c.loop-test.false) in
    first_depths c.args.self.now c.loop.depths.items (c.loop.invariant.so_far ∙ ap (λ (n : ℕ). replicate n 0) all)
