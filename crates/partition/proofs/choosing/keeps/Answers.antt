use Rattle.std.proofs.Common.{sym, ◌∙◌}
use Rattle.std.proofs.lemmas.List.{length-map}
use Rattle.flat_ir.specs.Program.{program_of, step_of}
use Rattle.partition.proofs.Deeper.{deeper_not_kept}
use Rattle.partition.proofs.choosing.keeps.Goals as goal

pub returns-then-has_deeper : goal.returns-then-has_deeper
returns-then-has_deeper c = (
  λ h. absurd (cc),
  λ kept.
      absurd (deeper_not_kept (program_of c.args.f.now) c.args.limits.now c.args.split.now (c.requires.parts ∙ sym (length-map c.args.f.now.code step_of))
      (sym c.has_deeper.ensures ∙ c.if-has_deeper.true) kept),
)
