use Rattle.std.proofs.Common.{arith}
use Rattle.pcap_trace.proofs.NumberLemmas.{big_read, little_read}
use Rattle.pcap_trace.proofs.number.u32_at.Goals as goal

pub returns-then-big : goal.returns-then-big
returns-then-big c =
    big_read c.args.big c.args.bytes.now c.args.at c.from_be_bytes.result c.if-big.true c.requires
    (λ i. omega (arith, c.type_inv.bytes i)) c.from_be_bytes.ensures

pub returns-else-big : goal.returns-else-big
returns-else-big c =
    little_read c.args.big c.args.bytes.now c.args.at c.from_le_bytes.result c.if-big.false c.requires
    (λ i. omega (arith, c.type_inv.bytes i)) c.from_le_bytes.ensures
