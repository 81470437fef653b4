use Rattle.std.proofs.Common.{rules, sym, subst}
use Rattle.gal_bits.specs.Checksum.{adjusted, IsRecomputed}
use Rattle.gal_bits.proofs.Recomputed.{recomputed}
use Rattle.gal_bits.proofs.checksum.adjust.Goals as goal

pub returns-clause-value : goal.returns-clause-value
unfolding adjusted
returns-clause-value c = search rules

pub returns-clause-recomputed : goal.returns-clause-recomputed
returns-clause-recomputed c =
    subst (IsRecomputed c.args.sum c.args.old c.args.new) (sym (returns-clause-value c))
    (recomputed c.args.sum c.args.old c.args.new c.ranges.old.fits c.ranges.new.fits)
