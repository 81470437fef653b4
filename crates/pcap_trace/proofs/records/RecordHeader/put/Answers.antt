use Rattle.pcap_trace.proofs.NumberLemmas.{record_header_put}
use Rattle.pcap_trace.proofs.records.RecordHeader.put.Goals as goal

pub returns : goal.returns
returns c =
    let h = c.args.self.now in
    record_header_put c.args.big h.seconds h.fraction h.captured h.original c.args.text.now
    c.extend.new.self c.extend-2.new.self c.extend-3.new.self c.extend-4.new.self
    c.u32_bytes.result c.u32_bytes-2.result c.u32_bytes-3.result c.u32_bytes-4.result
    c.in_ok-extend.ensures.ok c.in_ok-extend-2.ensures.ok c.in_ok-extend-3.ensures.ok c.in_ok-extend-4.ensures.ok
    c.u32_bytes.ensures c.u32_bytes-2.ensures c.u32_bytes-3.ensures c.u32_bytes-4.ensures
