use Rattle.std.proofs.Common.{◌≡◌, ◌+◌, suc, cond, max, length, sym, ap, ◌∙◌, arith, add-one}
use Rattle.flat_ir.specs.Program.{program_of}
use Rattle.transfer_header.specs.BlockSteps.{step_if}
use Rattle.server_runtime.specs.Noting.{is_condition_of, is_operand_at, is_written_at}
use Rattle.server_runtime.specs.Spans.{last_below}
use Rattle.server_runtime.proofs.Noted.{all_noted, guards, last_more}
use Rattle.server_runtime.proofs.Steps.{code_length}
use Rattle.server_runtime.proofs.allocation.step_reads.Goals as goal

pub loop-i-preserved : goal.loop-i-preserved
loop-i-preserved c =
    let f = program_of c.args.whole.now.flat in
    let split = c.args.whole.now.split in
    let i = c.loop-i.i in
    let now = c.loop-i.invariant in
    record {
      blocks = c.note_step.ensures.blocks ∙ now.blocks;
      count = c.note_step.ensures.count ∙ now.count;
      writes = λ test.
          let at = is_written_at f split test in
          c.in_ok-note_step.ensures.writes test ∙ ap (λ g. max g (step_if (at (suc i)) (suc i))) (now.writes test) ∙ last_more (suc i) at
          ∙ ap (λ m. last_below (suc m) at) (sym (add-one i));
      last = λ n lt.
          let at = is_operand_at f split n in
          c.in_ok-note_step.ensures.last n (omega (arith, lt, now.count)) ∙ ap (λ k. cond (at (suc i)) (suc i) k) (now.last n lt)
          ∙ ap (λ m. last_below (suc m) at) (sym (add-one i));
    }

pub returns-clause-last : goal.returns-clause-last
returns-clause-last c n lt =
    let flat = c.args.whole.now.flat in
    let f = program_of flat in
    let split = c.args.whole.now.split in
    let now = c.loop-i.invariant in
    let end : suc c.loop-i.i ≡ length f.code + 1 = omega (arith, c.loop-i.auto.i-end, c.loop-i-test.false, c.len-count.ensures, code_length flat) in
    c.note_conditions.ensures.last n (omega (arith, lt, now.count))
    ∙ (λ p. max (now.last n lt p) ((c.hand_up.ensures.greatest (is_condition_of f n) ∙ now.writes (guards f n)) p))
    ∙ ap (λ m. max (last_below m (is_operand_at f split n)) (last_below m (is_written_at f split (guards f n)))) end
    ∙ all_noted f split n
