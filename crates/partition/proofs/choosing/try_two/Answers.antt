use Rattle.std.proofs.Common.{true, false, List, None, Some, subst}
use Rattle.std.specs.Prelude.{Option}
use Rattle.flat_ir.specs.Program.{program_of}
use Rattle.split_model.specs.declared.split.Part.{Part}
use Rattle.partition.specs.declared.trying.Tried.{Tried}
use Rattle.partition.specs.declared.trying.Tried.TheVariants.{Kept, Exceeding}
use Rattle.partition.specs.Tried.{IsFound, IsTried}
use Rattle.partition.proofs.Chosen.{exceeded_not_kept}
use Rattle.partition.proofs.Shrunk.{first_with, first_without}
use Rattle.partition.proofs.Steps.{neither}
use Rattle.partition.proofs.choosing.try_two.Goals as goal

pub returns-in-Some : goal.returns-in-Some
returns-in-Some c =
    let f = program_of c.args.f.now in
    let l = c.args.limits.now in
    let k = c.args.front.now.count in
    let found : IsFound f l k true (Some c.in-Some.split) = subst (λ (o : Option (List Part)). IsFound f l k true o) c.in-Some.is c.in_ok-split.ensures in
    first_with f l k c.in-Some.split c.requires.nonempty found

pub returns-in-Kept : goal.returns-in-Kept
returns-in-Kept c =
    let f = program_of c.args.f.now in
    let l = c.args.limits.now in
    let k = c.args.front.now.count in
    let none : IsFound f l k true None = subst (λ (o : Option (List Part)). IsFound f l k true o) c.in_default.is c.in_ok-split.ensures in
    let tried : IsTried f l k false (Kept c.in-Kept.split) = subst (λ (t : Tried). IsTried f l k false t) c.in-Kept.is c.in_ok-split-2.ensures in
    first_without f l k c.in-Kept.split c.requires.nonempty none tried.kept

pub left_after-requires-clause-neither : goal.left_after-requires-clause-neither
left_after-requires-clause-neither c =
    let f = program_of c.args.f.now in
    let l = c.args.limits.now in
    let k = c.args.front.now.count in
    let none : IsFound f l k true None = subst (λ (o : Option (List Part)). IsFound f l k true o) c.in_default.is c.in_ok-split.ensures in
    let tried : IsTried f l k false (Exceeding c.in-Exceeding.over) = subst (λ (t : Tried). IsTried f l k false t) c.in-Exceeding.is c.in_ok-split-2.ensures in
    neither f l k none
    (λ other kept. exceeded_not_kept f l k false c.requires.bounded.formed other c.in-Exceeding.over tried kept)

pub left_after-requires-clause-exceeded : goal.left_after-requires-clause-exceeded
left_after-requires-clause-exceeded c =
    let f = program_of c.args.f.now in
    let l = c.args.limits.now in
    let k = c.args.front.now.count in
    let tried : IsTried f l k false (Exceeding c.in-Exceeding.over) = subst (λ (t : Tried). IsTried f l k false t) c.in-Exceeding.is c.in_ok-split-2.ensures in
    tried.exceeded
