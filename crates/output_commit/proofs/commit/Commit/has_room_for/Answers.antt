use Rattle.std.proofs.Common.{arith, ap, length}
use Rattle.output_commit.specs.Commit.{commands}
use Rattle.output_commit.proofs.CommandCounts.{batch_commands, commands_total}
use Rattle.output_commit.proofs.commit.Commit.has_room_for.Goals as goal

pub returns : goal.returns
returns c =
    let t = commands_total c.self.inside.batches c.self.invariant.kept in
    let e = ap (λ k. length (commands k)) c.self.view_is in
    let b = batch_commands c.args.updates.now in
    grind arith
