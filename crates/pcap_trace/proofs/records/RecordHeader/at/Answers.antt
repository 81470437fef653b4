use Rattle.pcap_trace.proofs.NumberLemmas.{record_header_read}
use Rattle.pcap_trace.proofs.records.RecordHeader.at.Goals as goal

pub returns-clause-text : goal.returns-clause-text
returns-clause-text c =
    record_header_read c.args.big c.args.bytes.now c.args.at c.u32_at.result c.u32_at-2.result c.u32_at-3.result c.u32_at-4.result
    c.u32_at.ensures c.u32_at-2.ensures c.u32_at-3.ensures c.u32_at-4.ensures
