use Rattle.std.proofs.Common.{◌≡◌, ◌+◌, ◌++◌, ◌∷◌, [], length, sym, ap, ◌∙◌, arith, add-one}
use Rattle.std.proofs.lemmas.List.{map-append}
use Rattle.flat_ir.specs.Program.{program_of}
use Rattle.split_model.specs.Layouts.{first_results, number_of, values_below}
use Rattle.server_runtime.specs.Spans.{numbers_of}
use Rattle.server_runtime.proofs.Numbers.{below_suc, count_at}
use Rattle.server_runtime.proofs.allocation.numbers_at.Goals as goal

pub overflow_sub-count : goal.overflow_sub-count
overflow_sub-count c =
    let f = program_of c.args.whole.now.flat in
    let i = c.args.i in
    let next = ap (λ n. length (values_below f n)) (add-one i) in
    omega (arith, c.first-first.ensures, c.first.ensures, next, below_suc f i)

pub loop-place-preserved : goal.loop-place-preserved
loop-place-preserved c =
    let f = program_of c.args.whole.now.flat in
    let i = c.args.i in
    let k = c.loop-place.place in
    c.in_ok-push.ensures.items
    ∙ (λ p. c.loop-place.invariant p ++ (c.first-first.ensures p + k) ∷ [])
    ∙ sym (map-append (number_of f) (first_results i k) (record { instruction = i; result = k } ∷ []))
    ∙ ap (λ n. numbers_of f (first_results i n)) (sym (add-one k))

pub returns : goal.returns
returns c =
    let f = program_of c.args.whole.now.flat in
    let i = c.args.i in
    let next = ap (λ n. length (values_below f n)) (add-one i) in
    let all : c.loop-place.place ≡ count_at f i = omega (arith, c.loop-place.auto.place-end, c.loop-place-test.false, c.first-first.ensures, c.first.ensures, next, below_suc f i) in
    c.loop-place.invariant ∙ ap (λ n. numbers_of f (first_results i n)) all
