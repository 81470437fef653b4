use Rattle.std.proofs.Common.{◌<◌, ◌&&◌, not, ℕ, length, sym, ap, ◌∙◌, arith}
use Rattle.flat_ir.specs.Kinds.{is_input}
use Rattle.flat_ir.specs.Program.{program_of, Step}
use Rattle.split_model.specs.Counts.{count_below}
use Rattle.split_model.specs.Split.{is_server}
use Rattle.server_runtime.specs.Serving.{is_evaluated}
use Rattle.server_runtime.proofs.Steps.{code_length, counts_none, counts_one}
use Rattle.server_runtime.proofs.plan.count_evaluated.Goals as goal
use Rattle.server_runtime.proofs.plan.count_evaluated.Goals.{then-is_evaluated, else-is_evaluated}
use Rattle.flat_ir.proofs.Steps.{step_is}

pub loop-place-preserved : goal.loop-place-preserved
loop-place-preserved c =
    let flat = c.args.f.now in
    let split = c.args.s.now in
    let test = is_evaluated (program_of flat) split in
    let n = c.loop-place.place in
    let lt : n < length flat.code = omega (arith, c.loop-place-test.true, ap length c.as_slice-instr-items.ensures) in
    let is = step_is flat n c.instr-item.result c.as_slice-instr-items.result.now c.as_slice-instr-items.ensures lt c.instr-item.is in
    let at = ap (λ (s : Step). is_server split n && not (is_input s.work)) is in
    elim c.if-is_evaluated.branch [
      | then-is_evaluated w ↦ record {
        few = omega (arith, w.evaluated-is, c.loop-place.invariant.few);
        counted = w.evaluated-is ∙ counts_one test n c.loop-place.evaluated c.loop-place.invariant.counted (sym at ∙ sym c.is_evaluated.ensures ∙ w.if-is_evaluated.true);
      }
      | else-is_evaluated w ↦ record {
        few = omega (arith, w.evaluated-is, c.loop-place.invariant.few);
        counted = w.evaluated-is ∙ counts_none test n c.loop-place.evaluated c.loop-place.invariant.counted (sym at ∙ sym c.is_evaluated.ensures ∙ w.if-is_evaluated.false);
      }
    ]

pub returns : goal.returns
returns c =
    let flat = c.args.f.now in
    c.loop-place.invariant.counted
    ∙ ap (λ (n : ℕ). count_below n (is_evaluated (program_of flat) c.args.s.now))
    (omega (arith, c.loop-place.auto.place-end, c.loop-place-test.false, ap length c.as_slice-instr-items.ensures, code_length flat))
