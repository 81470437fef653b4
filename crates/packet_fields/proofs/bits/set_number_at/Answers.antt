use Rattle.std.proofs.Common.{arith}
use Rattle.packet_fields.proofs.Windows.{number_written, packet_written}
use Rattle.packet_fields.proofs.bits.set_number_at.Goals as goal

pub overflow_add-before-3 : goal.overflow_add-before-3
overflow_add-before-3 c =
    let w = c.around-first.result in
    let written = number_written c.args.packet.now w.first w.end w.behind c.args.start c.args.width c.number_of-all.result c.args.number c.around-first.ensures (omega arith) c.requires.fits c.number_of-all.ensures in
    omega (arith, written.1)

pub overflow_add-before-4 : goal.overflow_add-before-4
overflow_add-before-4 c =
    let w = c.around-first.result in
    let written = number_written c.args.packet.now w.first w.end w.behind c.args.start c.args.width c.number_of-all.result c.args.number c.around-first.ensures (omega arith) c.requires.fits c.number_of-all.ensures in
    omega (arith, written.1)

pub returns : goal.returns
returns c =
    let w = c.around-first.result in
    let written = number_written c.args.packet.now w.first w.end w.behind c.args.start c.args.width c.number_of-all.result c.args.number c.around-first.ensures (omega arith) c.requires.fits c.number_of-all.ensures in
    packet_written c.args.packet.now c.write_number.new.packet w.first w.end w.behind c.args.start c.args.width c.args.number _ c.around-first.ensures (omega arith)
    (λ i. omega (arith, c.type_inv.packet i)) written.0 c.write_number.ensures.len c.write_number.ensures.inside c.write_number.ensures.before c.write_number.ensures.behind
