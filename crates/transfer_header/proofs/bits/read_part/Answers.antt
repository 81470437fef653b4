use Rattle.std.proofs.Common.{arith}
use Rattle.transfer_header.proofs.Parts.{part_read}
use Rattle.transfer_header.proofs.bits.read_part.Goals as goal

pub returns-clause-bits : goal.returns-clause-bits
returns-clause-bits c =
    part_read c.args.bytes.now c.args.start c.args.width c.number_in-number.result (omega (arith, c.requires.narrow)) c.requires.within c.number_in-number.ensures
