use Rattle.std.proofs.Common.{List, ℕ, ◌≤◌, ◌≡◌, ◌+◌, ◌<◌, ◌^◌, ◌∙◌, length, take, sym, subst, ap, arith}
use Rattle.std.specs.BinaryHeap.{heap_items}
use Rattle.std.specs.List.Sorted.{IsPermutation, IsNonDecreasingBy}
use Rattle.std.proofs.lemmas.List.{length-take}
use Rattle.flat_ir.specs.declared.spans.Span.{Span}
use Rattle.flat_ir.specs.declared.taken.Taken.{Taken}
use Rattle.std.proofs.lemmas.List.Sums.{count_by-le-length}
use Rattle.slot_table.specs.Table.{Table}
use Rattle.flat_ir.specs.Spans.{covers}
use Rattle.flat_ir.specs.Plan.{AreFirst}
use Rattle.flat_ir.specs.Planning.{IsPlanned}
use Rattle.flat_ir.proofs.PlansMade.{IsMade, starts, stored, one_more, made}
use Rattle.flat_ir.proofs.reg_plan.RegPlan.of.Goals as goal

pub loop-span-init : goal.loop-span-init
loop-span-init c = record {
  so_far = starts c.in_ok-registers.registers.rows (heap_items c.new-taken.result) c.in_ok-registers.ensures.rows c.new-taken.ensures.items c.new-taken.ensures.heap_order;
  room = omega (arith, c.in_ok-registers.ensures.capacity, c.len.ensures, c.deref-span-items.ensures.len);
  few = omega (arith, c.in_ok-sorted.ensures.bounded, ap length c.deref-span-items.ensures.value);
}

pub loop-span-preserved : goal.loop-span-preserved
loop-span-preserved c =
    let items = c.deref-span-items.result.now in
    let i = c.loop-span.span-index in
    let same : IsPermutation c.args.spans.now items = subst (IsPermutation c.args.spans.now) (sym c.deref-span-items.ensures.value) c.in_ok-sorted.ensures.same in
    let rising = subst (IsNonDecreasingBy (λ (s : Span). s.from)) (sym c.deref-span-items.ensures.value) c.in_ok-sorted.ensures.rising in
    let room = c.loop-span.invariant.room in
    let short : i < length items = omega (arith, c.loop-span-test.true) in
    let few = c.loop-span.invariant.so_far.given.few in
    let kept = stored c.loop-span.registers _ c.in_ok-register.register (length (take i items)) few (omega (arith, short, room, length-take i items)) in
    record {
      so_far = subst (λ rows. IsPlanned (take (i + 1) items) rows (heap_items c.take.new.taken)) (sym (c.insert.ensures.rows ∙ kept))
          (one_more c.args.spans.now items i _ c.loop-span.registers.rows (heap_items c.loop-span.taken) (heap_items c.take.new.taken) c.in_ok-register.register
          short c.requires.differ same rising c.loop-span.invariant.so_far c.in_ok-register.ensures);
      room = c.insert.ensures.capacity ∙ room;
      few = c.loop-span.invariant.few;
    }

-- the plan of a table that was put into memory of its own
made_apart : (spans items : List Span) (i count : ℕ) (table apart : Table) (taken : List Taken) → apart ≡ table → length taken ≡ count → length items ≤ i
    → IsPermutation spans items → IsPlanned (take i items) table.rows taken → IsMade spans apart.rows count
made_apart spans items i count table apart taken same counted all permuted planned =
    subst (λ (t : Table). IsMade spans t.rows count) (sym same) (subst (IsMade spans table.rows) counted (made spans items i table.rows taken all permuted planned))

made_plan : (c : goal.After-drop-sorted-2) → IsMade c.args.spans.now c.in_ok-registers-2.registers.value.rows c.len-count.result
made_plan c =
    made_apart c.args.spans.now c.deref-span-items.result.now c.loop-span.span-index c.len-count.result c.loop-span.registers c.in_ok-registers-2.registers.value (heap_items c.loop-span.taken)
    c.in_ok-registers-2.ensures.ok (omega (arith, c.len-count.ensures, c.loop-span.taken.data.ok.0)) (omega (arith, c.loop-span-test.false))
    (subst (IsPermutation c.args.spans.now) (sym c.deref-span-items.ensures.value) c.in_ok-sorted.ensures.same) c.loop-span.invariant.so_far

pub invariant_of-result : goal.invariant_of-result
invariant_of-result c =
    let m = made_apart c.args.spans.now c.deref-span-items.result.now c.loop-span.span-index c.len-count.result c.loop-span.registers c.in_ok-registers-2.registers.value (heap_items c.loop-span.taken)
    c.in_ok-registers-2.ensures.ok (omega (arith, c.len-count.ensures, c.loop-span.taken.data.ok.0)) (omega (arith, c.loop-span-test.false))
    (subst (IsPermutation c.args.spans.now) (sym c.deref-span-items.ensures.value) c.in_ok-sorted.ensures.same) c.loop-span.invariant.so_far in
    let reached = m.greatest.some in
    let few : c.len-count.result < 2 ^ 32 = omega (arith, reached.1, count_by-le-length (covers reached.0) c.args.spans.now, c.requires.few_spans) in
    (m.below, few, subst (λ (t : Table). AreFirst t.rows c.in_ok-first.first.items) c.deref.ensures c.in_ok-first.ensures)

pub returns-clause-registers : goal.returns-clause-registers
returns-clause-registers c = let m = made_plan c in λ value. (m.some value, m.none value)

pub returns-clause-apart : goal.returns-clause-apart
returns-clause-apart c = (made_plan c).apart

pub returns-clause-count : goal.returns-clause-count
returns-clause-count c = (made_plan c).greatest
