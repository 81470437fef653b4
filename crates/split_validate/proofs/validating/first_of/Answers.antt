use Rattle.std.proofs.Common.{sym, ◌∙◌, arith}
use Rattle.split_validate.proofs.Instructions.{same_count}
use Rattle.split_validate.proofs.validating.first_of.Goals as goal

pub returns-then-breaks : goal.returns-then-breaks
returns-then-breaks c = record {
  within = omega (arith, c.loop-i-test.true, c.len-i-end.ensures, same_count c.args.f.now);
  broken = sym c.breaks.ensures ∙ c.if-breaks.true;
  first = c.loop-i.invariant;
}
