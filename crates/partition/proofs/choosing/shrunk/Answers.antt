use Rattle.std.proofs.Common.{◌≡◌, ℕ, List, true, false, None, sym, subst, arith}
use Rattle.std.specs.Prelude.{Option}
use Rattle.std.proofs.lemmas.Result.{IfOk-weaker}
use Rattle.flat_ir.specs.Program.{program_of}
use Rattle.split_model.specs.declared.split.Part.{Part}
use Rattle.split_model.specs.Greatest.{IsGreatestSplit}
use Rattle.partition.specs.Choice.{IsChosen, IsFirstKept, shrinking}
use Rattle.partition.specs.declared.choosing.Outcome.{Outcome}
use Rattle.partition.specs.Tried.{IsFound, IsLeft, IsStep}
use Rattle.partition.proofs.Shrunk.{found_last}
use Rattle.partition.proofs.Last.{last_exact}
use Rattle.partition.proofs.choosing.shrunk.Goals as goal

pub narrow_to-requires-clause-fewer : goal.narrow_to-requires-clause-fewer
narrow_to-requires-clause-fewer c =
    let left : IsLeft (program_of c.args.f.now) c.args.limits.now c.loop-front.front.count c.in-Left.count =
    subst (λ (o : Outcome). IsStep (program_of c.args.f.now) c.args.limits.now c.loop-front.front.count o) c.in-Left.is c.in_ok-split.ensures in
    omega (arith, left.fewer)

pub loop-front-preserved : goal.loop-front-preserved
loop-front-preserved c =
    let f = program_of c.args.f.now in
    let l = c.args.limits.now in
    let left : IsLeft f l c.loop-front.front.count c.in-Left.count = subst (λ (o : Outcome). IsStep f l c.loop-front.front.count o) c.in-Left.is c.in_ok-split.ensures in
    record {
      front = c.narrow_to.ensures.front;
      few = omega (arith, left.fewer, c.loop-front.invariant.few, c.narrow_to.ensures.count);
      first = λ split first. c.loop-front.invariant.first split
          (left.first split (subst (λ k. IsFirstKept f l (shrinking k) split) c.narrow_to.ensures.count first));
    }

pub returns : goal.returns
returns c =
    let f = program_of c.args.f.now in
    let l = c.args.limits.now in
    let z : c.loop-front.front.count ≡ 0 = omega (arith, c.loop-front-test.false) in
    let none : IsFound f l 0 true None =
    subst (λ (n : ℕ). IsFound f l n true None) z (subst (λ (o : Option (List Part)). IsFound f l c.loop-front.front.count true o) c.in-None.is c.in_ok-split-2.ensures) in
    IfOk-weaker c.all_on_server.result (λ (split : List Part). IsGreatestSplit f 0 false split) (λ (split : List Part). IsChosen f l true split)
    (λ split greatest. c.loop-front.invariant.first split
    (subst (λ k. IsFirstKept f l (shrinking k) split) (sym z)
    (found_last f l split none
    (record { greatest = greatest; keeps = (last_exact f l split c.requires.bounded.formed greatest).1 c.requires.in_range.3 }))))
    c.all_on_server.ensures.greatest
