use Rattle.std.proofs.Common.{◌∙◌, ap, sym, length}
use Rattle.output_commit.specs.Commit.{commands}
use Rattle.output_commit.proofs.CommandCounts.{commands_total}
use Rattle.output_commit.proofs.commit.Commit.commands.Goals as goal

pub returns : goal.returns
returns c = sym (commands_total c.self.inside.batches c.self.invariant.kept) ∙ ap (λ k. length (commands k)) c.self.view_is
