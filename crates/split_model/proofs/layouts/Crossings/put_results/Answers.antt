use Rattle.std.proofs.Common.{◌≡◌, ◌∙◌, ◌++◌, ◌∷◌, [], ap, arith, map, subst}
use Rattle.std.specs.List.{filter}
use Rattle.flat_ir.specs.Program.{program_of}
use Rattle.split_model.specs.Layouts.{crossing, first_results}
use Rattle.split_model.specs.Marked.{crosses}
use Rattle.split_model.proofs.ValueLists.{results_more}
use Rattle.split_model.proofs.layouts.Crossings.put_results.Goals as goal

pub loop-place-preserved : goal.loop-place-preserved
loop-place-preserved c =
    let f = program_of c.args.f.now in
    let test = crosses c.args.way f c.args.s.now in
    c.in_ok-put.ensures
    ∙ ap (λ l. l ++ map (crossing f) (filter test (record { instruction = c.args.i; result = c.loop-place.place } ∷ []))) c.loop-place.invariant
    ∙ results_more f test c.args.layout.now c.args.i c.loop-place.place

pub returns-clause-all : goal.returns-clause-all
returns-clause-all c =
    let f = program_of c.args.f.now in
    let done : c.loop-place.place ≡ c.result_count-count.result = omega arith in
    subst (λ n. c.loop-place.layout ≡ c.args.layout.now ++ map (crossing f) (filter (crosses c.args.way f c.args.s.now) (first_results c.args.i n))) done c.loop-place.invariant
