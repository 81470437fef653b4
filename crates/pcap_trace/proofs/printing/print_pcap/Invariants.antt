use Rattle.std.proofs.Common.{◌≡◌, ◌++◌, take}
use Rattle.std.specs.List.{flat_map}
use Rattle.pcap_trace.specs.Format.{header, record_bytes}
use Rattle.pcap_trace.proofs.printing.print_pcap.Given as goal

abbrev pub invariant-loop-item : goal.invariant-loop-item
invariant-loop-item l =
    l.text ≡ header l.p.big l.p.nano l.p.zone l.p.sigfigs l.p.snaplen
    ++ flat_map (record_bytes l.p.big) (take l.item-index l.items)
