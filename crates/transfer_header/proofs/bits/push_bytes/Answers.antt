use Rattle.std.proofs.Common.{◌<◌, arith, subst, sym, lit<}
use Rattle.std.proofs.lemmas.List.Elements.{All-push}
use Rattle.std.proofs.lemmas.Nat.{mod_below}
use Rattle.transfer_header.proofs.BitLists.{AreBytes}
use Rattle.transfer_header.proofs.Parts.{byte_pushed}
use Rattle.transfer_header.proofs.bits.push_bytes.Goals as goal

pub loop-left-preserved : goal.loop-left-preserved
loop-left-preserved c = record {
  are = subst AreBytes (sym c.push_reserved.ensures.items) (All-push (λ byte. byte < 256) c.loop-left.bytes.items _ c.loop-left.invariant.are (mod_below _ 256 (lit< tt)));
  narrow = omega arith;
  within = omega (arith, c.push_reserved.ensures.len, c.push_reserved.ensures.capacity, c.loop-left.invariant.within, c.loop-left-test.true);
  bits = byte_pushed c.loop-left.bytes.items c.push_reserved.new.self.items _ c.loop-left.left c.args.number c.loop-left-test.true c.push_reserved.ensures.items c.loop-left.invariant.bits;
  capacity = omega (arith, c.push_reserved.ensures.capacity, c.loop-left.invariant.capacity);
}
