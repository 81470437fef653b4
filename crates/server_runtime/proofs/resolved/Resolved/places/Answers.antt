use Rattle.std.proofs.Common.{◌≡◌, ◌-◌, length, ap, ◌∙◌, arith, add-one}
use Rattle.flat_ir.specs.Program.{program_of, result_count, step_at}
use Rattle.split_model.specs.Layouts.{values_below}
use Rattle.server_runtime.proofs.Numbers.{below_suc}
use Rattle.server_runtime.proofs.ByPlaces.{one_place}
use Rattle.server_runtime.proofs.resolved.Resolved.places.Goals as goal

pub overflow_sub-count : goal.overflow_sub-count
overflow_sub-count c =
    let f = program_of c.args.self.now.whole.now.flat in
    let i = c.args.instruction in
    omega (arith, c.first-first.ensures, c.first.ensures, ap (λ n. length (values_below f n)) (add-one i), below_suc f i)

pub returns-then-count-eq1 : goal.returns-then-count-eq1
returns-then-count-eq1 c =
    let f = program_of c.args.self.now.whole.now.flat in
    let i = c.args.instruction in
    one_place f c.args.self.now.values.now i c.result_place.result c.result_place.ensures
    (omega (arith, c.if-count-eq1.true, c.first-first.ensures, c.first.ensures, ap (λ n. length (values_below f n)) (add-one i), below_suc f i))

pub returns : goal.returns
returns c =
    let f = program_of c.args.self.now.whole.now.flat in
    let i = c.args.instruction in
    let count : c.first.result - c.first-first.result ≡ result_count f.objects (step_at f i).work =
    omega (arith, c.first-first.ensures, c.first.ensures, ap (λ n. length (values_below f n)) (add-one i), below_suc f i) in
    record {
      count = c.in_ok-list.ensures.count ∙ count;
      each = λ k lt. c.in_ok-list.ensures.each k (omega (arith, lt, count));
    }
