use Rattle.std.proofs.Common.{drop, refl, arith, inr}
use Rattle.std.proofs.lemmas.List.{length-drop}
use Rattle.pcap_trace.proofs.RecordLoop.{tells_of}
use Rattle.pcap_trace.proofs.reading.header_at.Goals as goal

pub returns-then-captured-gt-MAX_PACKET_BYTES-clause-err :
    goal.returns-then-captured-gt-MAX_PACKET_BYTES-clause-err
returns-then-captured-gt-MAX_PACKET_BYTES-clause-err c =
    let h = c.at-header.result in (
      refl,
      (
        h.captured,
        tells_of c.args.big (drop c.args.at c.args.bytes.now) h (omega (arith, length-drop c.args.at c.args.bytes.now)) c.at-header.ensures.fits c.at-header.ensures.text,
        omega arith,
      ),
    )

pub returns-then-left-captured-clause-err : goal.returns-then-left-captured-clause-err
returns-then-left-captured-clause-err c =
    let h = c.at-header.result in (
      refl,
      inr (
        h.captured,
        tells_of c.args.big (drop c.args.at c.args.bytes.now) h (omega (arith, length-drop c.args.at c.args.bytes.now)) c.at-header.ensures.fits c.at-header.ensures.text,
        omega arith,
        omega (arith, length-drop c.args.at c.args.bytes.now),
      ),
    )
