use Rattle.std.proofs.Common.{◌^◌, ◌<◌, ◌≤◌, sym, ◌∙◌, arith}
use Rattle.std.proofs.lemmas.Bool.{le-leb}
use Rattle.std.proofs.lemmas.Nat.{pow_pos}
use Rattle.lemmas.proofs.Numbers.{below_power, quotient_zero}
use Rattle.state_store.proofs.packing.fits.Goals as goal

pub returns-then-width-ge64 : goal.returns-then-width-ge64
returns-then-width-ge64 c =
    let small : c.args.number < 2 ^ 64 = omega arith in
    let many : 64 ≤ c.args.width = omega arith in
    le-leb 64 c.args.width many ∙ sym (below_power c.args.number c.args.width small many)

pub returns-else-width-ge64 : goal.returns-else-width-ge64
returns-else-width-ge64 c = quotient_zero c.args.number (2 ^ c.args.width) (pow_pos c.args.width)
