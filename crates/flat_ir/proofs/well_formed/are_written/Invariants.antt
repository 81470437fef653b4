use Rattle.std.proofs.Common.{◌≡◌, drop}
use Rattle.std.specs.List.{list_all}
use Rattle.flat_ir.specs.Program.{program_of}
use Rattle.flat_ir.specs.Tests.{is_written}
use Rattle.flat_ir.proofs.well_formed.are_written.Given as goal

abbrev pub invariant-loop-written : goal.invariant-loop-written
invariant-loop-written l = list_all (is_written (program_of l.f)) (drop l.written-index l.fields) ≡ list_all (is_written (program_of l.f)) l.fields
