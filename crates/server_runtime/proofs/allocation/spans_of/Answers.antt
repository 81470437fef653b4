use Rattle.std.proofs.Common.{◌≡◌, ◌+◌, ◌<◌, ◌++◌, ℕ, suc, max, List, length, map, get_or, sym, ap, ◌∙◌, subst, arith, add-one}
use Rattle.std.specs.List.{All}
use Rattle.std.proofs.lemmas.List.Elements.{recursion_from_All}
use Rattle.flat_ir.specs.declared.spans.Span.{Span}
use Rattle.flat_ir.specs.Program.{program_of}
use Rattle.split_model.specs.Layouts.{values_of}
use Rattle.server_runtime.specs.Spans.{spans_below, writes_at}
use Rattle.server_runtime.proofs.Needed.{spans_same, writes_low}
use Rattle.server_runtime.proofs.Steps.{code_length}
use Rattle.server_runtime.proofs.allocation.spans_of.Goals as goal

pub push_spans-requires : goal.push_spans-requires
push_spans-requires c =
    let flat = c.args.whole.now.flat in
    let f = program_of flat in
    let split = c.args.whole.now.split in
    let low = writes_low f split c.requires.prepared.bounded.formed in
    subst (λ (ns : List ℕ). All (λ (n : ℕ). n < length c.args.last.now) ns) (sym (c.deref.ensures.value ∙ c.in_ok-handed.ensures))
    (subst (λ (k : ℕ). All (λ (n : ℕ). n < k) (writes_at f split 0)) (sym c.requires.last.count) (low 0))

pub loop-i-init : goal.loop-i-init
loop-i-init c =
    let flat = c.args.whole.now.flat in
    let f = program_of flat in
    let split = c.args.whole.now.split in
    let low = writes_low f split c.requires.prepared.bounded.formed in
    let row : ℕ → List ℕ → List ℕ → List Span = λ step last ws. map {B = Span} (λ (n : ℕ). record { value = n; from = step; to = max step (get_or last n 0) }) ws in
    let last = c.args.last.now in
    c.in_ok-push_spans.ensures
    ∙ (λ p. c.new-spans.ensures p ++ row 0 last ((c.deref.ensures.value ∙ c.in_ok-handed.ensures) p))
    ∙ spans_same f split 0 last c.requires.last.each (writes_at f split 0) (recursion_from_All (λ (n : ℕ). n < length (values_of f)) (writes_at f split 0) (low 0))

pub push_spans-requires-in-loop-i : goal.push_spans-requires-in-loop-i
push_spans-requires-in-loop-i c =
    let flat = c.args.whole.now.flat in
    let f = program_of flat in
    let split = c.args.whole.now.split in
    let low = writes_low f split c.requires.prepared.bounded.formed in
    let i = c.loop-i.i in
    subst (λ (ns : List ℕ). All (λ (n : ℕ). n < length c.args.last.now) ns) (sym (c.deref-in-loop-i.ensures.value ∙ c.in_ok-numbers.ensures))
    (subst (λ (k : ℕ). All (λ (n : ℕ). n < k) (writes_at f split (suc i))) (sym c.requires.last.count) (low (suc i)))

pub loop-i-preserved : goal.loop-i-preserved
loop-i-preserved c =
    let flat = c.args.whole.now.flat in
    let f = program_of flat in
    let split = c.args.whole.now.split in
    let low = writes_low f split c.requires.prepared.bounded.formed in
    let row : ℕ → List ℕ → List ℕ → List Span = λ step last ws. map {B = Span} (λ (n : ℕ). record { value = n; from = step; to = max step (get_or last n 0) }) ws in
    let i = c.loop-i.i in
    let last = c.args.last.now in
    let ws = writes_at f split (suc i) in
    let two : suc (suc i) ≡ i + 1 + 1 = omega arith in
    c.in_ok-push_spans-2.ensures
    ∙ (λ p. c.loop-i.invariant p ++ row (i + 1) last ((c.deref-in-loop-i.ensures.value ∙ c.in_ok-numbers.ensures) p))
    ∙ ap (λ (k : ℕ). spans_below f split k ++ row k last ws) (add-one i)
    ∙ ap (λ (l : List Span). spans_below f split (suc i) ++ l)
    (spans_same f split (suc i) last c.requires.last.each ws (recursion_from_All (λ (n : ℕ). n < length (values_of f)) ws (low (suc i))))
    ∙ ap (spans_below f split) two

pub returns : goal.returns
returns c =
    let flat = c.args.whole.now.flat in
    let f = program_of flat in
    let end : c.loop-i.i + 1 ≡ length f.code + 1 = omega (arith, c.loop-i.auto.i-end, c.loop-i-test.false, c.len-i-end.ensures, code_length flat) in
    c.loop-i.invariant ∙ ap (spans_below f c.args.whole.now.split) end
