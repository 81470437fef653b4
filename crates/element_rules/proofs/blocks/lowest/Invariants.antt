use Rattle.std.proofs.Common.{◌≡◌, drop}
use Rattle.element_lang.specs.Broken.{lowest_broken}
use Rattle.element_rules.proofs.blocks.lowest.Given as goal

abbrev pub invariant-loop-rule : goal.invariant-loop-rule
invariant-loop-rule l = lowest_broken l.at (drop l.rule-index l.tests) ≡ lowest_broken l.at l.tests
