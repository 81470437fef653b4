use Rattle.std.proofs.Common.{rules}
use Rattle.packet_fields.proofs.SetFields.{field_set}
use Rattle.packet_fields.proofs.access.set.Goals as goal

pub returns-in-Some : goal.returns-in-Some
returns-in-Some c =
    let set = field_set c.args.packet.now c.set_number_at.new.packet c.args.shape.now c.args.field c.in-Some.first c.bits_of.result c.args.value c.requires.shape c.in-Some.ensures c.bits_of.ensures c.requires.may c.requires.fits c.set_number_at.ensures in
    record { after = set.after; absent = search rules; reads = λ _. set.reads; others = set.others; same_shape = set.same_shape }
