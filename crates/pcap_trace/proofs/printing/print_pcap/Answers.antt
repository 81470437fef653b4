use Rattle.std.proofs.Common.{arith}
use Rattle.pcap_trace.proofs.PacketLoop.{all_printed, is_taken}
use Rattle.pcap_trace.proofs.printing.print_pcap.Goals as goal

pub returns-in_err-put-clause-taken : goal.returns-in_err-put-clause-taken
returns-in_err-put-clause-taken c =
    is_taken c.args.p.now c.numbers_fit.ensures.zone c.numbers_fit.ensures.sigfigs c.numbers_fit.ensures.snaplen c.as_slice-items.ensures.records

pub returns-in_err-put_record-clause-taken : goal.returns-in_err-put_record-clause-taken
returns-in_err-put_record-clause-taken c =
    is_taken c.args.p.now c.numbers_fit.ensures.zone c.numbers_fit.ensures.sigfigs c.numbers_fit.ensures.snaplen c.as_slice-items.ensures.records

pub returns-clause-text : goal.returns-clause-text
returns-clause-text c =
    all_printed c.args.p.now c.loop-item.text c.as_slice-items.result.now c.loop-item.item-index c.as_slice-items.ensures.value
    (omega arith) c.loop-item.invariant

pub returns-clause-taken : goal.returns-clause-taken
returns-clause-taken c =
    is_taken c.args.p.now c.numbers_fit.ensures.zone c.numbers_fit.ensures.sigfigs c.numbers_fit.ensures.snaplen c.as_slice-items.ensures.records
