use Rattle.std.proofs.Common.{ℕ, List, ap, ◌∙◌, arith}
use Rattle.pcap_trace.specs.Packets.{whole_record}
use Rattle.pcap_trace.proofs.PacketLoop.{made_are_records, one_made}
use Rattle.pcap_trace.proofs.packets.records_of.Goals as goal

pub loop-i-preserved : goal.loop-i-preserved
loop-i-preserved c =
    one_made c.loop-i.records.items c.push.new.self.items c.args.packets.now c.loop-i.i c.index-packets-i.result c.in_ok-record_at.field-0
    c.loop-i.invariant c.loop-i-test.true c.index-packets-i.is
    (c.in_ok-record_at.ensures.value ∙ ap (λ (bytes : List ℕ). whole_record c.loop-i.i bytes) c.as_slice.ensures)
    c.in_ok-record_at.ensures.good c.in_ok-push.ensures.items

pub of-requires : goal.of-requires
of-requires c =
    made_are_records c.loop-i.records.items c.args.packets.now c.loop-i.i c.loop-i.invariant (omega arith) c.requires.few_records
