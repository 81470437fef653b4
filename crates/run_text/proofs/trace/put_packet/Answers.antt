use Rattle.std.proofs.Common.{rules}
use Rattle.run_text.proofs.PrintedBack.{packet_back}
use Rattle.run_text.proofs.trace.put_packet.Goals as goal

pub returns-clause-back : goal.returns-clause-back
returns-clause-back c =
    let bytes = rw c.as_slice.ensures at c.put_body.ensures.fits in
    let back = packet_back c.args.packet.now c.put_port.ensures.fits bytes c.requires in
    search rules
