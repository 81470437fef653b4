use Rattle.std.proofs.Common.{arith}
use Rattle.packet_fields.proofs.Windows.{number_read}
use Rattle.packet_fields.proofs.bits.number_at.Goals as goal

pub returns-clause-value : goal.returns-clause-value
returns-clause-value c =
    let w = c.around-window.result in
    number_read c.args.packet.now w.first w.end w.behind c.args.start c.args.width c.number_of-all.result c.around-window.ensures c.requires.narrow (omega arith) c.number_of-all.ensures
