use Rattle.std.proofs.Common.{sym, subst}
use Rattle.std.proofs.lemmas.List.{length-map}
use Rattle.flat_ir.specs.Program.{step_of}
use Rattle.split_validate.specs.SplitLines.{IsSplitText}
use Rattle.gallium_cli.proofs.given.read.Goals as goal

pub returns-in-Ok-clause-ok : goal.returns-in-Ok-clause-ok
returns-in-Ok-clause-ok c =
    subst (λ n. IsSplitText n c.args.text.now c.in-Ok.split) (sym (length-map c.args.f.now.code step_of)) c.in-Ok.ensures.ok
