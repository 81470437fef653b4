use Rattle.std.proofs.Common.{rules, ℕ, List, ap, lit<, arith, vec_capacity}
use Rattle.transfer_header.specs.Bits.{Written}
use Rattle.transfer_header.proofs.BitLists.{AreBytes}
use Rattle.transfer_header.proofs.Parts.{none_held}
use Rattle.transfer_header.proofs.bits.BitWriter.behind.Goals as goal

pub invariant_of-result : goal.invariant_of-result
invariant_of-result c = let bytes = c.args.bytes in let are : AreBytes bytes.items = search rules in (lit< tt, lit< tt, are, omega (arith, bytes.ok.0, bytes.ok.1))

pub returns : goal.returns
returns c = ap (λ (bits : List ℕ). let w : Written = record { bits = bits; capacity = vec_capacity c.args.bytes } in w) (none_held c.args.bytes.items)
