use Rattle.std.proofs.Common.{◌≡◌, ◌+◌, ◌<◌, ℕ, suc, Bool, true, cond, List, length, get_or, sym, ap, ◌∙◌, subst, arith}
use Rattle.std.specs.List.{All}
use Rattle.flat_ir.specs.declared.program.ValueId.{ValueId}
use Rattle.flat_ir.specs.Program.{is_named, program_of}
use Rattle.transfer_header.specs.Steps.{is_among}
use Rattle.server_runtime.specs.Spans.{last_below, numbers_of, reads_at, values_kept}
use Rattle.server_runtime.proofs.Listed.{end_reads, numbers_within}
use Rattle.server_runtime.proofs.Spanned.{kept_earlier}
use Rattle.server_runtime.proofs.Steps.{code_length}
use Rattle.server_runtime.proofs.allocation.last_reads.Goals as goal
use Rattle.lemmas.proofs.Lists.{each_weaker}

pub note-requires : goal.note-requires
note-requires c =
    let f = program_of c.args.whole.now.flat in
    let split = c.args.whole.now.split in
    let named = each_weaker (λ (v : ValueId). (is_named f v ≡ true) × (v.instruction < length f.code)) (λ (v : ValueId). is_named f v ≡ true)
    (λ v h. h.0) (values_kept f split)
    (kept_earlier f split c.requires.bounded.formed)
    in
    record {
      within = subst (λ (ns : List ℕ). All (λ (n : ℕ). n < length c.in_ok-last.last.items) ns) (sym (c.deref.ensures.value ∙ c.in_ok-numbers.ensures))
          (subst (λ (k : ℕ). All (λ (n : ℕ). n < k) (numbers_of f (values_kept f split))) (sym c.in_ok-last.ensures.count) (numbers_within f (values_kept f split) named));
    }

pub returns : goal.returns
returns c = record {
  count = c.note.ensures.count ∙ c.in_ok-last.ensures.count;
  each = λ n lt.
      let flat = c.args.whole.now.flat in
      let f = program_of flat in
      let split = c.args.whole.now.split in
      let test = λ (step : ℕ). reads_at f split step n in
      let old = get_or c.in_ok-last.last.items n 0 in
      let top = length f.code in
      let step = c.len.result + 1 in
      let at : step ≡ suc top = omega (arith, c.len.ensures, code_length flat) in
      let end : top + 1 ≡ suc top = omega arith in
      let two : suc (suc top) ≡ top + 2 = omega arith in
      c.note.ensures.last n (omega (arith, lt, c.in_ok-last.ensures.count))
      ∙ ap (λ (ns : List ℕ). cond (is_among n ns) step old) (c.deref.ensures.value ∙ c.in_ok-numbers.ensures)
      ∙ ap (λ (b : Bool). cond b step old) (sym (end_reads f split n))
      ∙ ap (λ (k : ℕ). cond (test (suc top)) k old) at
      ∙ ap (λ (k : ℕ). cond (test (suc top)) (suc top) k) (c.in_ok-last.ensures.last n lt ∙ ap (λ (k : ℕ). last_below k test) end)
      ∙ ap (λ (k : ℕ). last_below k test) two;
}
