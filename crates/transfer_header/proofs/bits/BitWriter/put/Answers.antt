use Rattle.std.proofs.Common.{◌-◌, arith}
use Rattle.transfer_header.proofs.Parts.{parts_put, length-put}
use Rattle.transfer_header.proofs.bits.BitWriter.put.Goals as goal

pub put_part-requires-then-width-gt-PART-clause-within : goal.put_part-requires-then-width-gt-PART-clause-within
put_part-requires-then-width-gt-PART-clause-within c =
    omega (arith, length-put c.args.self.now.bits c.put_part.new.self.bits (c.args.width - 56) _ c.put_part.ensures.bits, c.requires.within, c.if-width-gt-PART.true, c.put_part.ensures.capacity)

pub returns-then-width-gt-PART-clause-bits : goal.returns-then-width-gt-PART-clause-bits
returns-then-width-gt-PART-clause-bits c =
    parts_put c.args.self.now.bits c.put_part.new.self.bits c.put_part-then-width-gt-PART.new.self.bits (c.args.width - 56) 56 c.args.width c.args.number (omega (arith, c.if-width-gt-PART.true)) c.put_part.ensures.bits c.put_part-then-width-gt-PART.ensures.bits
