use Rattle.std.proofs.Common.{ℕ, ap, ◌∙◌}
use Rattle.std.specs.Int.{w32}
use Rattle.pcap_trace.specs.Format.{number}
use Rattle.pcap_trace.proofs.NumberLemmas.{front_made}
use Rattle.pcap_trace.proofs.header.front.Goals as goal

pub returns : goal.returns
returns c =
    front_made c.args.big c.args.nano c.u32_bytes.result c.u16_bytes.result c.u16_bytes-2.result
    (c.u32_bytes.ensures ∙ ap (λ (n : ℕ). number c.args.big w32 n) c.magic.ensures) c.u16_bytes.ensures c.u16_bytes-2.ensures
