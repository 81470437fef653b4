use Rattle.pcap_trace.proofs.PacketLoop.{record_put}
use Rattle.pcap_trace.proofs.printing.put_record.Goals as goal

pub returns : goal.returns
returns c =
    record_put c.args.big c.args.item.now c.args.text.now c.put.new.text c.extend.new.self c.as_slice.result.now c.len.result
    c.len.ensures c.as_slice.ensures c.in_ok-put.ensures c.in_ok-extend.ensures.ok
