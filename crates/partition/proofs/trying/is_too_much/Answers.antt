use Rattle.std.proofs.Common.{false, subst}
use Rattle.flat_ir.specs.Program.{program_of}
use Rattle.partition.specs.declared.trying.Tried.{Tried}
use Rattle.partition.specs.declared.trying.Tried.TheVariants.{Exceeding}
use Rattle.partition.specs.Choice.{IsExceeded}
use Rattle.partition.specs.Tried.{IsTried}
use Rattle.partition.proofs.trying.is_too_much.Goals as goal

pub returns : goal.returns
returns c = λ much.
    let f = program_of c.args.f.now in
    let l = c.args.limits.now in
    let n = c.in_ok-front.front.count in
    let tried : IsTried f l n false (Exceeding c.in-Exceeding.over) = subst (λ (t : Tried). IsTried f l n false t) c.in-Exceeding.is c.in_ok-try_split.ensures in
    record {
      over = c.in-Exceeding.over;
      exceeded = subst (λ n. IsExceeded f l n false c.in-Exceeding.over) c.in_ok-front.ensures.count tried.exceeded;
      other = c.is_of_preprocessing.ensures much;
    }
