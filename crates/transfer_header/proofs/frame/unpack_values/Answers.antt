use Rattle.std.proofs.Common.{◌+◌, ◌≤◌, ℕ, List, subst, refl, ap, sym, ◌∙◌, arith, ◌≡◌, take}
use Rattle.split_model.specs.declared.layout.Crossing.{Crossing}
use Rattle.transfer_header.specs.Bits.{bits_in}
use Rattle.transfer_header.specs.Values.{total}
use Rattle.transfer_header.specs.Registers.{Registers, value_in}
use Rattle.transfer_header.proofs.LayoutValues.{IsSet, AreApartIn, value_bits-nil, value_within, bits_written, narrow_written, nothing_changed, one_changed, has_at, same_places, still_apart_in}
use Rattle.transfer_header.proofs.Writes.{is_set, has_here}
use Rattle.split_model.proofs.Sums.{bits_more}
use Rattle.transfer_header.proofs.frame.unpack_values.Goals as goal

pub loop-crossing-init : goal.loop-crossing-init
loop-crossing-init c = record {
  place = refl;
  bits = value_bits-nil (value_in c.args.into.now);
  narrow = λ k d below. absurd (omega arith);
  kept = nothing_changed _ c.args.into.now;
}

pub read_bits-requires-clause-near : goal.read_bits-requires-clause-near
read_bits-requires-clause-near c =
    let within : c.loop-crossing.at + c.bits-width.result ≤ total c.args.layout.now = value_within c.as_slice-crossing-items.result.now c.args.layout.now c.loop-crossing.crossing-index c.loop-crossing.at c.bits-width.result c.crossing-item.result c.as_slice-crossing-items.ensures c.loop-crossing-test.true c.crossing-item.is c.bits-width.ensures.value c.loop-crossing.invariant.place in
    omega arith

pub read_bits-requires-clause-within : goal.read_bits-requires-clause-within
read_bits-requires-clause-within c =
    let within : c.loop-crossing.at + c.bits-width.result ≤ total c.args.layout.now = value_within c.as_slice-crossing-items.result.now c.args.layout.now c.loop-crossing.crossing-index c.loop-crossing.at c.bits-width.result c.crossing-item.result c.as_slice-crossing-items.ensures c.loop-crossing-test.true c.crossing-item.is c.bits-width.ensures.value c.loop-crossing.invariant.place in
    omega arith

pub overflow_add-at : goal.overflow_add-at
overflow_add-at c =
    let within : c.loop-crossing.at + c.bits-width.result ≤ total c.args.layout.now = value_within c.as_slice-crossing-items.result.now c.args.layout.now c.loop-crossing.crossing-index c.loop-crossing.at c.bits-width.result c.crossing-item.result c.as_slice-crossing-items.ensures c.loop-crossing-test.true c.crossing-item.is c.bits-width.ensures.value c.loop-crossing.invariant.place in
    omega arith

pub set-requires : goal.set-requires
set-requires c =
    has_here c.args.into.now c.loop-crossing.into c.crossing-item.result.number
    (same_places c.args.into.now c.loop-crossing.into c.loop-crossing.invariant.kept.plan c.loop-crossing.invariant.kept.count)
    (has_at c.as_slice-crossing-items.result.now c.args.layout.now c.loop-crossing.crossing-index c.args.into.now c.crossing-item.result c.as_slice-crossing-items.ensures c.loop-crossing-test.true c.crossing-item.is c.requires.fits.among)

pub loop-crossing-preserved : goal.loop-crossing-preserved
loop-crossing-preserved c =
    let items : List Crossing = c.as_slice-crossing-items.result.now in
    let crossing : Crossing = c.crossing-item.result in
    let i : ℕ = c.loop-crossing.crossing-index in
    let start : Registers = c.args.into.now in
    let into : Registers = c.loop-crossing.into in
    let after : Registers = c.set.new.self in
    let width : c.bits-width.result ≡ crossing.width = c.bits-width.ensures.value in
    let set : IsSet into after crossing.number c.read_bits.result = is_set into after crossing.number c.read_bits.result c.set.ensures.all c.set.ensures.number c.set.ensures.others in
    let apart : AreApartIn into items = still_apart_in start into items (same_places start into c.loop-crossing.invariant.kept.plan c.loop-crossing.invariant.kept.count) (subst (AreApartIn start) (sym c.as_slice-crossing-items.ensures) c.requires.fits.apart) in
    record {
      place = omega (arith, bits_more items i crossing c.loop-crossing-test.true c.crossing-item.is);
      bits = bits_written items into after c.args.header.now i c.loop-crossing.at crossing c.read_bits.result apart c.loop-crossing-test.true c.crossing-item.is set c.loop-crossing.invariant.bits (rw width at c.read_bits.ensures.bits) ∙ ap (λ k. take (c.loop-crossing.at + k) (bits_in c.args.header.now)) (sym width);
      narrow = narrow_written items into after i crossing c.read_bits.result apart c.loop-crossing-test.true c.crossing-item.is set c.loop-crossing.invariant.narrow (rw width at c.read_bits.ensures.fits);
      kept = one_changed items start into after i crossing c.read_bits.result c.loop-crossing-test.true c.crossing-item.is set c.loop-crossing.invariant.kept;
    }
