use Rattle.std.proofs.Common.{◌<◌, ℕ, length, sym, ap, ◌∙◌, subst, arith, IsTrue}
use Rattle.flat_ir.specs.Fits.{fits}
use Rattle.flat_ir.specs.Program.{program_of, step_at, Step}
use Rattle.split_model.specs.Counts.{count_below}
use Rattle.server_runtime.specs.Serving.{is_followed}
use Rattle.server_runtime.proofs.Steps.{code_length, counts_none, counts_one}
use Rattle.server_runtime.proofs.plan.count_writes.Goals as goal
use Rattle.server_runtime.proofs.plan.count_writes.Goals.{then-is_followed, else-is_followed}
use Rattle.flat_ir.proofs.Steps.{step_is}

pub loop-instr-preserved : goal.loop-instr-preserved
loop-instr-preserved c =
    let f = program_of c.args.f.now in
    let n = c.loop-instr.instr-index in
    let lt : n < length c.args.f.now.code = omega (arith, c.loop-instr-test.true, ap length c.as_slice-instr-items.ensures) in
    let is = step_is c.args.f.now n c.instr-item.result c.as_slice-instr-items.result.now c.as_slice-instr-items.ensures lt c.instr-item.is in
    let fit = subst (λ (s : Step). IsTrue (fits f s.work)) (sym is) (c.requires.fit n (omega (arith, lt, code_length c.args.f.now))) in
    elim c.if-is_followed.branch [
      | then-is_followed w ↦ record {
        few = omega (arith, w.writes-is, c.loop-instr.invariant.few);
        counted = λ split marks.
            let test = λ (i : ℕ). is_followed f split (step_at f i).work in
            w.writes-is ∙ counts_one test n c.loop-instr.writes (c.loop-instr.invariant.counted split marks)
            (sym (ap (λ (s : Step). is_followed f split s.work) is) ∙ sym (c.is_followed.ensures f split marks fit) ∙ w.if-is_followed.true);
      }
      | else-is_followed w ↦ record {
        few = omega (arith, w.writes-is, c.loop-instr.invariant.few);
        counted = λ split marks.
            let test = λ (i : ℕ). is_followed f split (step_at f i).work in
            w.writes-is ∙ counts_none test n c.loop-instr.writes (c.loop-instr.invariant.counted split marks)
            (sym (ap (λ (s : Step). is_followed f split s.work) is) ∙ sym (c.is_followed.ensures f split marks fit) ∙ w.if-is_followed.false);
      }
    ]

pub returns : goal.returns
returns c split marks =
    let f = program_of c.args.f.now in
    c.loop-instr.invariant.counted split marks
    ∙ ap (λ n. count_below n (λ i. is_followed f split (step_at f i).work))
    (omega (arith, c.loop-instr.auto.instr-index-end, c.loop-instr-test.false, ap length c.as_slice-instr-items.ensures, code_length c.args.f.now))
