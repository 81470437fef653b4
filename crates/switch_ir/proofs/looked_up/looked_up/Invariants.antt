use Rattle.std.proofs.Common.{◌≡◌, ◌++◌, drop}
use Rattle.flat_ir.specs.Program.{program_of}
use Rattle.switch_ir.specs.Emitted.{tables_from}
use Rattle.switch_ir.proofs.looked_up.looked_up.Given as goal

abbrev pub invariant-loop-number : goal.invariant-loop-number
invariant-loop-number l =
    l.tables ++ tables_from (program_of l.f) l.s l.number (drop l.number l.f.objects) ≡ tables_from (program_of l.f) l.s 0 l.f.objects
