use Rattle.std.proofs.Common.{rules, ℕ, List, ◌≡◌, ◌+◌, ◌≤◌, ◌++◌, take, ap, sym, ◌∙◌, arith, length}
use Rattle.std.proofs.lemmas.List.{append-nil, take_all}
use Rattle.split_model.specs.declared.layout.Crossing.{Crossing}
use Rattle.transfer_header.specs.Bits.{bits_in, bytes_for, packed, Written}
use Rattle.transfer_header.specs.Values.{total, value_bits}
use Rattle.transfer_header.specs.Registers.{value_in}
use Rattle.transfer_header.proofs.BitLists.{AreBytes, packed_behind}
use Rattle.transfer_header.proofs.LayoutValues.{value_bits-nil, more_packed, value_has_room, are_value_bits}
use Rattle.transfer_header.proofs.frame.pack_values.Goals as goal

pub loop-crossing-init : goal.loop-crossing-init
loop-crossing-init c = record {
  bits = ap (λ (w : Written). w.bits) c.behind-writer.ensures ∙ sym (ap (λ x. bits_in c.args.bytes.items ++ x) (value_bits-nil (value_in c.args.values.now)) ∙ append-nil (bits_in c.args.bytes.items));
  capacity = ap (λ (w : Written). w.capacity) c.behind-writer.ensures;
}

pub put-requires-clause-within : goal.put-requires-clause-within
put-requires-clause-within c =
    let enough : length c.args.bytes.items + bytes_for (total c.args.layout.now) ≤ c.loop-crossing.writer.capacity = omega (arith, c.requires.enough, c.args.bytes.ok.0, c.loop-crossing.invariant.capacity) in
    value_has_room c.as_slice-crossing-items.result.now c.args.layout.now (value_in c.args.values.now) c.args.bytes.items c.loop-crossing.writer.bits c.loop-crossing.crossing-index c.bits.result c.loop-crossing.writer.capacity
    c.crossing-item.result c.as_slice-crossing-items.ensures c.loop-crossing-test.true c.crossing-item.is c.bits.ensures.value c.loop-crossing.invariant.bits enough

pub loop-crossing-preserved : goal.loop-crossing-preserved
loop-crossing-preserved c = record {
  bits = more_packed c.as_slice-crossing-items.result.now c.args.values.now (bits_in c.args.bytes.items) c.loop-crossing.writer.bits c.put.new.self.bits c.loop-crossing.crossing-index c.bits.result c.at.result c.crossing-item.result
      c.loop-crossing-test.true c.crossing-item.is c.bits.ensures.value c.at.ensures c.loop-crossing.invariant.bits c.put.ensures.bits;
  capacity = c.put.ensures.capacity ∙ c.loop-crossing.invariant.capacity;
}

pub returns-clause-items : goal.returns-clause-items
returns-clause-items c =
    let items : List Crossing = c.as_slice-crossing-items.result.now in
    let bytes : List ℕ = c.args.bytes.items in
    let values : Crossing → ℕ = value_in c.args.values.now in
    let are : AreBytes bytes = search rules in
    let all : take c.loop-crossing.crossing-index items ≡ c.args.layout.now = take_all c.loop-crossing.crossing-index items (omega arith) ∙ c.as_slice-crossing-items.ensures in
    c.finish.ensures.items ∙ ap (λ x. packed x) (c.loop-crossing.invariant.bits ∙ ap (λ x. bits_in bytes ++ value_bits x values) all)
    ∙ packed_behind bytes (value_bits c.args.layout.now values) are (are_value_bits c.args.layout.now values)
