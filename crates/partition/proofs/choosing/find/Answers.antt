use Rattle.std.proofs.Common.{◌≡◌, true, false, List, subst}
use Rattle.flat_ir.specs.Program.{program_of}
use Rattle.split_model.specs.declared.split.Part.{Part}
use Rattle.resource_limits.specs.Kept.{KeepsLimits}
use Rattle.partition.proofs.Laws.{greatest_split_is_one-one}
use Rattle.partition.proofs.choosing.find.Goals as goal

pub returns-else-branch : goal.returns-else-branch
returns-else-branch c = λ other kept.
    let f = program_of c.args.f.now in
    let same : other ≡ c.in_ok-split.split =
    greatest_split_is_one-one f c.args.front.now.count c.args.all other c.in_ok-split.split c.requires.bounded.formed kept.greatest c.in_ok-split.ensures in
    let yes : c.in_ok-keeps.field-0 ≡ true = c.in_ok-keeps.ensures.1 (subst (λ (s : List Part). KeepsLimits f s c.args.limits.now) same kept.keeps) in
    let no' : c.in_ok-keeps.field-0 ≡ false = c.if-branch.false in
    cc
