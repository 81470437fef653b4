use Rattle.std.proofs.Common.{suc, arith}
use Rattle.std.proofs.lemmas.Result.{IfOk-weaker}
use Rattle.flat_ir.specs.Program.{program_of}
use Rattle.partition.specs.Tried.{IsMostLeft, IsLeft}
use Rattle.partition.proofs.Steps.{left_of, left_of_one}
use Rattle.partition.proofs.Monotone.{none_kept}
use Rattle.partition.proofs.choosing.left_after.Goals as goal

pub most_left-requires-clause-much : goal.most_left-requires-clause-much
most_left-requires-clause-much c = record {
  over = c.args.over;
  exceeded = c.requires.exceeded;
  other = c.is_of_preprocessing.ensures c.if-is_of_preprocessing.true;
}

pub returns-then-is_of_preprocessing : goal.returns-then-is_of_preprocessing
returns-then-is_of_preprocessing c =
    let f = program_of c.args.f.now in
    let l = c.args.limits.now in
    IfOk-weaker c.most_left.result (λ left. IsMostLeft f l c.args.count left) (λ left. IsLeft f l c.args.count left)
    (λ left most. left_of f l c.args.count left most.fewer
    (λ n more few all other kept. none_kept f c.requires.bounded.formed
    l (suc left) most.much n (omega (arith, more)) all other kept))
    c.most_left.ensures

pub returns-else-is_of_preprocessing : goal.returns-else-is_of_preprocessing
returns-else-is_of_preprocessing c = left_of_one (program_of c.args.f.now) c.args.limits.now c.args.count c.requires.nonempty c.requires.neither
