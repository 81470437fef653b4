use Rattle.std.proofs.Common.{◌∙◌, add-one, append_assoc, arith}
use Rattle.std.proofs.lemmas.List.{map-append}
use Rattle.switch_machine.proofs.passes.push_list.Goals as goal

pub loop-index-preserved : goal.loop-index-preserved
loop-index-preserved c = record {
  items = rw (c.push_reserved.ensures.items, c.loop-index.invariant.items, c.result_at.ensures, append_assoc, add-one, map-append);
  len = omega (arith, c.push_reserved.ensures.len, c.loop-index.invariant.len);
  capacity = c.push_reserved.ensures.capacity ∙ c.loop-index.invariant.capacity;
}
