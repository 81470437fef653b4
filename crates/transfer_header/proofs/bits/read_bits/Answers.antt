use Rattle.std.proofs.Common.{◌≡◌, ◌+◌, ◌-◌, ◌*◌, ◌%◌, ◌^◌, ◌<◌, arith, subst, take, drop}
use Rattle.transfer_header.specs.Bits.{bits_of, bits_in}
use Rattle.transfer_header.proofs.Parts.{side_by_side, more_read}
use Rattle.transfer_header.proofs.bits.read_bits.Goals as goal

pub returns-clause-bits : goal.returns-clause-bits
returns-clause-bits c =
    let first = c.read_part-high in
    let second = c.read_part-2 in
    let whole : c.args.width - 56 + 56 ≡ c.args.width = omega (arith, c.if-width-part.false) in
    subst (λ w. bits_of w (first.result * 2 ^ 56 % 2 ^ 64 + second.result) ≡ take w (drop c.args.start (bits_in c.args.bytes.now))) whole
    (more_read (bits_in c.args.bytes.now) c.args.start (c.args.width - 56) 56 first.result second.result first.ensures.fits second.ensures.fits (omega (arith, c.requires.narrow)) first.ensures.bits second.ensures.bits)

pub returns-clause-fits : goal.returns-clause-fits
returns-clause-fits c =
    let first = c.read_part-high in
    let second = c.read_part-2 in
    let whole : c.args.width - 56 + 56 ≡ c.args.width = omega (arith, c.if-width-part.false) in
    subst (λ w. first.result * 2 ^ 56 % 2 ^ 64 + second.result < 2 ^ w) whole
    (side_by_side (c.args.width - 56) 56 first.result second.result first.ensures.fits second.ensures.fits (omega (arith, c.requires.narrow))).1
