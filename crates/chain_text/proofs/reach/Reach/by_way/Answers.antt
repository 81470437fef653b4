use Rattle.std.proofs.Common.{refl}
use Rattle.chain_text.proofs.Tables.{next_table}
use Rattle.chain_text.proofs.reach.Reach.by_way.Goals as goal

pub returns : goal.returns
returns c = λ wires count h. next_table wires count c.args.through c.args.self.now _ c.loop-place.place h c.requires refl c.loop-place.invariant.so_far c.loop-place-test.false
