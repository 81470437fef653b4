use Rattle.std.proofs.Common.{◌^◌, ◌<◌, ◌≤◌, sym, ◌∙◌, arith}
use Rattle.std.proofs.lemmas.Bool.{le-leb}
use Rattle.std.proofs.lemmas.Nat.{pow_pos}
use Rattle.lemmas.proofs.Numbers.{below_power, quotient_zero}
use Rattle.element_rules.proofs.widths.fits.Goals as goal

pub returns-then-bits-ge-MAX_WIDTH : goal.returns-then-bits-ge-MAX_WIDTH
returns-then-bits-ge-MAX_WIDTH c =
    let small : c.args.value < 2 ^ 64 = omega arith in
    let many : 64 ≤ c.args.bits = omega arith in
    le-leb 64 c.args.bits many ∙ sym (below_power c.args.value c.args.bits small many)

pub returns-else-bits-ge-MAX_WIDTH : goal.returns-else-bits-ge-MAX_WIDTH
returns-else-bits-ge-MAX_WIDTH c = quotient_zero c.args.value (2 ^ c.args.bits) (pow_pos c.args.bits)
