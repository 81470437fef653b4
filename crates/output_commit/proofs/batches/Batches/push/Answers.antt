use Rattle.std.proofs.Common.{◌≡◌, ◌++◌, ◌∷◌, [], arith, length, refl}
use Rattle.output_commit.proofs.BegunBatches.{nonempty, pushes}
use Rattle.output_commit.proofs.batches.Batches.push.Goals as goal

pub returns-clause-ok : goal.returns-clause-ok
returns-clause-ok c =
    let b = c.args.self.now in
    let new = c.args.updates.now in
    let updates : c.extend_from_slice.new.self.items ≡ b.updates.items ++ new = grind arith in
    let spans : c.push.new.self.items ≡ b.spans.items ++ (record { first = length b.updates.items; changes = length new; versions = 1 }) ∷ [] = grind arith in
    pushes b _ new c.requires.kept (nonempty new c.if-is_empty.ensures) c.requires.few_commands updates spans refl refl refl
    (c.reserve.ensures.kept b.updates.items c.requires.kept.tallied) c.in_ok-reserve.ensures.room
