use Rattle.std.proofs.Common.{sym, ap, ◌∙◌}
use Rattle.flat_ir.specs.Tests.{low_parents}
use Rattle.flat_ir.proofs.Exact.{low_parents_hold}
use Rattle.flat_ir.proofs.well_formed.is_good.Goals as goal

pub has_good_blocks-requires : goal.has_good_blocks-requires
has_good_blocks-requires c = record { parents = low_parents_hold c.args.f.now.blocks (sym (ap low_parents c.as_slice.ensures) ∙ sym c.has_low_parents.ensures ∙ c.if-not-has_low_parents.false) }

pub has_good_code-requires : goal.has_good_code-requires
has_good_code-requires c = record { parents = low_parents_hold c.args.f.now.blocks (sym (ap low_parents c.as_slice.ensures) ∙ sym c.has_low_parents.ensures ∙ c.if-not-has_low_parents.false) }
