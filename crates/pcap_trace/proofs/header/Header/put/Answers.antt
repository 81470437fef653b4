use Rattle.pcap_trace.proofs.NumberLemmas.{header_put}
use Rattle.pcap_trace.proofs.header.Header.put.Goals as goal

pub returns : goal.returns
returns c =
    let h = c.args.self.now in
    header_put h.big h.nano h.zone h.sigfigs h.snaplen c.args.text.now
    c.extend.new.self c.extend-2.new.self c.extend-3.new.self c.extend-4.new.self c.extend-5.new.self
    c.front.result c.u32_bytes.result c.u32_bytes-2.result c.u32_bytes-3.result c.u32_bytes-4.result
    c.in_ok-extend.ensures.ok c.in_ok-extend-2.ensures.ok c.in_ok-extend-3.ensures.ok c.in_ok-extend-4.ensures.ok c.in_ok-extend-5.ensures.ok
    c.front.ensures c.u32_bytes.ensures c.u32_bytes-2.ensures c.u32_bytes-3.ensures c.u32_bytes-4.ensures
