use Rattle.std.proofs.Common.{◌≡◌, ◌<◌, ◌+◌, ◌*◌, ◌^◌, ◌++◌, ◌∷◌, [], ◌%◌, arith, ap, subst, sym, ◌∙◌, lit<, take}
use Rattle.std.proofs.lemmas.List.{take_more}
use Rattle.transfer_header.specs.Bits.{bits_in}
use Rattle.transfer_header.proofs.BitLists.{bits_of-zero, bits_in-nil}
use Rattle.transfer_header.proofs.Parts.{side_by_side, byte_read}
use Rattle.transfer_header.proofs.bits.number_in.Goals as goal

pub loop-byte-init : goal.loop-byte-init
loop-byte-init c = record { fits = lit< tt; bits = bits_of-zero 0 ∙ sym bits_in-nil }

pub loop-byte-preserved : goal.loop-byte-preserved
loop-byte-preserved c =
    let index = c.loop-byte.byte-index in
    let short : index < 8 = omega (arith, c.loop-byte-test.true, c.requires.few_bytes) in
    let byte : c.from.result < 2 ^ 8 = omega arith in
    let first = c.loop-byte.invariant in
    let more : 8 * index + 8 ≡ 8 * (index + 1) = omega arith in
    let next : take index c.args.bytes.now ++ c.from.result ∷ [] ≡ take (index + 1) c.args.bytes.now =
    ap (λ x. take index c.args.bytes.now ++ x ∷ []) c.from.ensures ∙ sym (take_more c.args.bytes.now index 0 c.loop-byte-test.true) in
    record {
      fits = subst (λ k. c.loop-byte.number * 2 ^ 8 % 2 ^ 64 + c.from.result < 2 ^ k) more (side_by_side (8 * index) 8 c.loop-byte.number c.from.result first.fits byte (omega arith)).1;
      bits = byte_read (take index c.args.bytes.now) index c.loop-byte.number c.from.result short byte first.fits first.bits ∙ ap bits_in next;
    }
