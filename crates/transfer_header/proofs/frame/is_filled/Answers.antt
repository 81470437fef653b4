use Rattle.std.proofs.Common.{arith, drop, length, length-drop, ◌*◌, ◌-◌, ◌≡◌, ◌∙◌}
use Rattle.transfer_header.specs.Bits.{bits_in}
use Rattle.transfer_header.proofs.BitLists.{length-bits_in}
use Rattle.transfer_header.proofs.Parts.{filling}
use Rattle.transfer_header.proofs.frame.is_filled.Goals as goal

pub returns : goal.returns
returns c =
    let header = c.args.header.now in
    let len : length (drop c.args.bits (bits_in header)) ≡ 8 * length header - c.args.bits = length-drop c.args.bits (bits_in header) ∙ omega (arith, length-bits_in header) in
    filling (8 * length header - c.args.bits) c.read_bits.result (drop c.args.bits (bits_in header)) c.read_bits.ensures.fits c.read_bits.ensures.bits len
