use Rattle.std.proofs.Common.{◌-◌, length}
use Rattle.pcap_trace.proofs.RecordLoop.{SoFar}
use Rattle.pcap_trace.proofs.reading.records_behind.Given as goal

abbrev pub invariant-loop-at : goal.invariant-loop-at
invariant-loop-at l = SoFar l.header l.bytes l.records.items l.count l.at

abbrev pub decreases-loop-at : goal.decreases-loop-at
decreases-loop-at l = length l.bytes - l.at
