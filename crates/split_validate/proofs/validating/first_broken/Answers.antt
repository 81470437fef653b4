use Rattle.std.proofs.Common.{length}
use Rattle.flat_ir.specs.Program.{program_of}
use Rattle.split_validate.proofs.Verdicts.{none_lower, one_more_kept}
use Rattle.split_validate.proofs.validating.first_broken.Goals as goal

pub loop-rule-init : goal.loop-rule-init
loop-rule-init c = none_lower (program_of c.args.f.now) c.args.s.now (length (program_of c.args.f.now).code)

pub loop-rule-preserved : goal.loop-rule-preserved
loop-rule-preserved c = one_more_kept c.args.f.now c.args.s.now c.loop-rule.rule c.loop-rule.invariant c.in_default.ensures
