use Rattle.std.proofs.Common.{◌≡◌, drop}
use Rattle.std.specs.List.{list_all}
use Rattle.flat_ir.specs.Program.{program_of}
use Rattle.flat_ir.specs.Tests.{may_read}
use Rattle.flat_ir.proofs.well_formed.may_read_all.Given as goal

abbrev pub invariant-loop-value : goal.invariant-loop-value
invariant-loop-value l = list_all (may_read (program_of l.f) l.i l.block) (drop l.value-index l.values) ≡ list_all (may_read (program_of l.f) l.i l.block) l.values
