use Rattle.std.proofs.Common.{arith}
use Rattle.lossy_link.proofs.Spelled.{eight_read}
use Rattle.lossy_link.proofs.number.number_at.Goals as goal

pub returns : goal.returns
returns c =
    eight_read c.args.bytes.now c.args.at c.from_be_bytes.result (λ i. omega (arith, c.type_inv.bytes i)) c.requires
    c.from_be_bytes.ensures
