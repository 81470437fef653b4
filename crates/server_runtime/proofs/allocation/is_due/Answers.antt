use Rattle.std.proofs.Common.{◌≡◌, ℕ, suc, true, nat_lt, length, get_or, sym, ap, ◌∙◌, arith, add-one}
use Rattle.std.proofs.lemmas.Bool.{cond-true}
use Rattle.flat_ir.specs.declared.program.Instr.{Instr}
use Rattle.flat_ir.specs.Kinds.{is_input}
use Rattle.flat_ir.specs.Program.{program_of, step_at, work_of, Step}
use Rattle.split_model.specs.Layouts.{values_below}
use Rattle.split_model.specs.Split.{is_server}
use Rattle.server_runtime.specs.Spans.{last_read}
use Rattle.server_runtime.proofs.Steps.{code_length}
use Rattle.server_runtime.proofs.Walked.{input_low}
use Rattle.flat_ir.proofs.Steps.{step_is}
use Rattle.server_runtime.proofs.allocation.is_due.Goals as goal

pub bounds-last-first : goal.bounds-last-first
bounds-last-first c =
    let flat = c.args.whole.now.flat in
    let f = program_of flat in
    let i = c.args.i in
    let is = step_is flat i c.index-as_slice-i.result c.as_slice.result.now c.as_slice.ensures c.requires.within c.index-as_slice-i.is in
    let input : is_input (step_at f i).work ≡ true = sym (ap (λ (s : Step). is_input s.work) is) ∙ ap (λ (one : Instr). is_input (work_of one.kind)) c.index-as_slice-i.is ∙ sym c.is_input.ensures ∙ c.if-is_input.true in
    omega (arith, c.first.ensures, input_low f i (omega (arith, c.requires.within, code_length flat)) input, c.requires.last.count)

pub returns-then-is_input : goal.returns-then-is_input
returns-then-is_input c =
    let flat = c.args.whole.now.flat in
    let f = program_of flat in
    let split = c.args.whole.now.split in
    let i = c.args.i in
    let last = c.args.last.now in
    let first = length (values_below f i) in
    let is = step_is flat i c.index-as_slice-i.result c.as_slice.result.now c.as_slice.ensures c.requires.within c.index-as_slice-i.is in
    let input : is_input (step_at f i).work ≡ true = sym (ap (λ (s : Step). is_input s.work) is) ∙ ap (λ (one : Instr). is_input (work_of one.kind)) c.index-as_slice-i.is ∙ sym c.is_input.ensures ∙ c.if-is_input.true in
    ap (λ (k : ℕ). nat_lt k (get_or last c.first.result 0)) (add-one i) ∙ ap (λ (n : ℕ). nat_lt (suc i) (get_or last n 0)) c.first.ensures
    ∙ ap (λ (k : ℕ). nat_lt (suc i) k) (c.requires.last.each first (input_low f i (omega (arith, c.requires.within, code_length flat)) input))
    ∙ sym (cond-true (is_input (step_at f i).work) (nat_lt (suc i) (last_read f split first)) (is_server split i) input)
