use Rattle.std.proofs.Common.{◌≡◌, ℕ, drop, take, sym, ap, ◌∙◌, arith}
use Rattle.std.specs.Int.{w32}
use Rattle.pcap_trace.specs.Format.{ethernet, number}
use Rattle.pcap_trace.proofs.NumberLemmas.{header_read}
use Rattle.pcap_trace.proofs.OneCapture.{other_link}
use Rattle.pcap_trace.proofs.header.Header.of.Goals as goal

pub returns-then-u32_at-ne-ETHERNET-clause-err : goal.returns-then-u32_at-ne-ETHERNET-clause-err
returns-then-u32_at-ne-ETHERNET-clause-err c = (
  c.in-Some.big,
  c.in-Some.nano,
  c.in-Some.ensures.found,
  other_link c.in-Some.big c.args.bytes.now c.u32_at.result (omega (arith, c.u32_at.type_inv)) c.u32_at.ensures c.if-u32_at-ne-ETHERNET.true,
)

pub returns-clause-ok : goal.returns-clause-ok
returns-clause-ok c =
    let big = c.in-Some.big in
    let bytes = c.args.bytes.now in
    let begins = c.in-Some.ensures.found in
    let link : number big w32 ethernet ≡ take 4 (drop 20 bytes) =
    ap (λ (n : ℕ). number big w32 n) (sym c.if-u32_at-ne-ETHERNET.false) ∙ c.u32_at.ensures in
    record {
      long = begins.long;
      text = header_read big c.in-Some.nano bytes c.u32_at-2.result c.u32_at-3.result c.u32_at-4.result begins.begin c.u32_at-2.ensures c.u32_at-3.ensures c.u32_at-4.ensures link;
      zone = omega (arith, c.u32_at-2.type_inv);
      sigfigs = omega (arith, c.u32_at-3.type_inv);
      snaplen = omega (arith, c.u32_at-4.type_inv);
    }
