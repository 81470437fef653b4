use Rattle.std.proofs.Common.{◌≡◌, ◌+◌, ◌<◌, ◌≤◌, ◌&&◌, ◌||◌, ℕ, true, cond, max, List, length, get_or, sym, ap, ◌∙◌, subst, arith, add-one}
use Rattle.std.specs.List.{All}
use Rattle.flat_ir.specs.Kinds.{is_input, is_write}
use Rattle.flat_ir.specs.Program.{operands, program_of, step_at, Step}
use Rattle.split_model.specs.Split.{is_server}
use Rattle.transfer_header.specs.BlockSteps.{greatest, step_if}
use Rattle.transfer_header.specs.Steps.{is_among}
use Rattle.server_runtime.specs.Spans.{is_taken, numbers_of}
use Rattle.server_runtime.proofs.Listed.{numbers_within}
use Rattle.server_runtime.proofs.Noted.{taken_is}
use Rattle.server_runtime.proofs.Steps.{code_length}
use Rattle.flat_ir.proofs.Steps.{step_is}
use Rattle.server_runtime.proofs.allocation.note_step.Goals as goal

pub note-requires : goal.note-requires
note-requires c =
    let flat = c.args.whole.now.flat in
    let f = program_of flat in
    let i = c.args.i in
    let lt : i < length f.code = omega (arith, c.requires.within, code_length flat) in
    let read = operands (step_at f i).work in
    record {
      within = subst (λ (ns : List ℕ). All (λ (n : ℕ). n < length c.args.last.now.items) ns) (sym (c.deref.ensures.value ∙ c.in_ok-numbers.ensures))
          (subst (λ (k : ℕ). All (λ (n : ℕ). n < k) (numbers_of f read)) (sym c.requires.count) (numbers_within f read (c.requires.prepared.bounded.formed.names i lt)));
    }

pub note_write-requires : goal.note_write-requires
note_write-requires c =
    let flat = c.args.whole.now.flat in
    let f = program_of flat in
    let i = c.args.i in
    let is = step_is flat i c.index-as_slice-i.result c.as_slice.result.now c.as_slice.ensures c.requires.within c.index-as_slice-i.is in
    let lt : i < length f.code = omega (arith, c.requires.within, code_length flat) in
    let low : c.index-as_slice-i.result.block ≤ length flat.blocks = subst (λ (s : Step). s.block ≤ length flat.blocks) (sym is) (c.requires.prepared.bounded.formed.blocks i lt) in
    omega (arith, low, c.requires.blocks)

pub returns-clause-writes : goal.returns-clause-writes
returns-clause-writes c test =
    let flat = c.args.whole.now.flat in
    let f = program_of flat in
    let split = c.args.whole.now.split in
    let i = c.args.i in
    let lt : i < length f.code = omega (arith, c.requires.within, code_length flat) in
    let old = greatest test c.args.blocks.now in
    let is = step_is flat i c.index-as_slice-i.result c.as_slice.result.now c.as_slice.ensures c.requires.within c.index-as_slice-i.is in
    let mine : true ≡ is_taken f split i = sym c.if-not-is_mine.false ∙ c.is_mine.ensures ∙ ap (λ (s : Step). is_input s.work || is_server split i) is ∙ sym (taken_is f split i lt) in
    c.note_write.ensures.steps test
    ∙ ap (λ (s : Step). max old (step_if (is_write s.work && test s.block) (i + 1))) is
    ∙ (λ p. max old (step_if (mine p && (is_write (step_at f i).work && test (step_at f i).block)) (add-one i p)))

pub returns-clause-last : goal.returns-clause-last
returns-clause-last c n low =
    let flat = c.args.whole.now.flat in
    let f = program_of flat in
    let split = c.args.whole.now.split in
    let i = c.args.i in
    let lt : i < length f.code = omega (arith, c.requires.within, code_length flat) in
    let old = get_or c.args.last.now.items n 0 in
    let is = step_is flat i c.index-as_slice-i.result c.as_slice.result.now c.as_slice.ensures c.requires.within c.index-as_slice-i.is in
    let mine : true ≡ is_taken f split i = sym c.if-not-is_mine.false ∙ c.is_mine.ensures ∙ ap (λ (s : Step). is_input s.work || is_server split i) is ∙ sym (taken_is f split i lt) in
    let among = is_among n (numbers_of f (operands (step_at f i).work)) in
    c.note.ensures.last n low
    ∙ ap (λ (ns : List ℕ). cond (is_among n ns) (i + 1) old) (c.deref.ensures.value ∙ c.in_ok-numbers.ensures)
    ∙ (λ p. cond (mine p && among) (add-one i p) old)
