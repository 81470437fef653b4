use Rattle.std.proofs.Common.{◌≡◌, ◌<◌, ◌+◌, length, ap, ◌∙◌, arith}
use Rattle.std.proofs.lemmas.List.{length_push}
use Rattle.flat_ir.specs.Program.{program_of, result_count, work_of, Step}
use Rattle.split_model.specs.Layouts.{values_below}
use Rattle.server_runtime.proofs.Numbers.{below_more, count_at, each_more}
use Rattle.server_runtime.proofs.Steps.{code_length}
use Rattle.flat_ir.proofs.Steps.{step_is}
use Rattle.server_runtime.proofs.plan.firsts_of.Goals as goal

pub loop-instr-preserved : goal.loop-instr-preserved
loop-instr-preserved c =
    let f = program_of c.args.f.now in
    let n = c.loop-instr.instr-index in
    let now = c.loop-instr.invariant in
    let lt : n < length c.args.f.now.code = omega (arith, c.loop-instr-test.true, ap length c.as_slice-instr-items.ensures) in
    let is = step_is c.args.f.now n c.instr-item.result c.as_slice-instr-items.result.now c.as_slice-instr-items.ensures lt c.instr-item.is in
    let count : c.result_count-next.result ≡ count_at f n =
    c.result_count-next.ensures.value
    ∙ ap (λ os. result_count os (work_of c.instr-item.result.kind)) c.as_slice.ensures
    ∙ ap (λ (s : Step). result_count c.args.f.now.objects s.work) is
    in
    record {
      count = omega (arith, now.count, ap length c.in_ok-push.ensures.items, length_push c.loop-instr.firsts.items c.loop-instr.next);
      each = rw c.in_ok-push.ensures.items (each_more (λ k. length (values_below f k)) c.loop-instr.firsts.items c.loop-instr.next n now.count now.each now.next);
      next = ap (λ k. k + c.result_count-next.result) now.next ∙ below_more f n c.result_count-next.result count;
      low = omega (arith, now.low, c.result_count-next.ensures.bounded);
    }

pub returns-clause-bounded : goal.returns-clause-bounded
returns-clause-bounded c =
    let f = program_of c.args.f.now in
    let end : c.loop-instr.instr-index ≡ length f.code = omega (arith, c.loop-instr.auto.instr-index-end, c.loop-instr-test.false, ap length c.as_slice-instr-items.ensures, code_length c.args.f.now) in
    omega (arith, c.loop-instr.invariant.next, c.loop-instr.invariant.low, ap (λ n. length (values_below f n)) end, end, c.requires, code_length c.args.f.now)
