use Rattle.std.proofs.Common.{◌∙◌, ◌++◌, ap, arith, length, map}
use Rattle.std.specs.List.{filter}
use Rattle.std.proofs.lemmas.List.{length-map}
use Rattle.flat_ir.specs.Program.{program_of, step_of}
use Rattle.split_model.specs.Layouts.{crossing, first_results, values_below}
use Rattle.split_model.specs.Marked.{crosses}
use Rattle.split_model.proofs.ValueLists.{values_more, layout_more, few_cross}
use Rattle.split_model.proofs.layouts.Crossings.layout.Goals as goal

pub loop-i-preserved : goal.loop-i-preserved
loop-i-preserved c =
    let f = program_of c.args.f.now in
    let test = crosses c.args.way f c.args.s.now in
    let more = values_more f c.loop-i.i c.in_ok-number.field-0 c.in_ok-number.ensures.count in
    record {
      numbered = omega (arith, c.loop-i.invariant.numbered, more);
      low = omega (arith, c.loop-i.invariant.low, c.in_ok-number.ensures.bounded);
      all = c.in_ok-number.ensures.all
          ∙ ap (λ l. l ++ map (crossing f) (filter test (first_results c.loop-i.i c.in_ok-number.field-0))) c.loop-i.invariant.all
          ∙ layout_more f test c.loop-i.i c.in_ok-number.field-0 c.in_ok-number.ensures.count;
    }

pub returns-clause-bounded : goal.returns-clause-bounded
returns-clause-bounded c =
    let f = program_of c.args.f.now in
    let few = few_cross f (crosses c.args.way f c.args.s.now) (values_below f c.loop-i.i) in
    omega (arith, few, ap length c.loop-i.invariant.all, c.loop-i.invariant.numbered, c.loop-i.invariant.low, c.requires.bounded.few, length-map c.args.f.now.code step_of)
