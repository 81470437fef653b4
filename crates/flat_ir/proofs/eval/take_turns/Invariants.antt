use Rattle.std.proofs.Common.{◌≡◌, length}
use Rattle.flat_ir.specs.Program.{program_of}
use Rattle.flat_ir.specs.Run.{after}
use Rattle.flat_ir.specs.Registers.{reads_of, packet_of}
use Rattle.flat_ir.specs.Turns.{StandAs}
use Rattle.flat_ir.proofs.eval.take_turns.Given as goal

abbrev pub invariant-loop-i : goal.invariant-loop-i
invariant-loop-i l =
    StandAs (after (program_of l.f) l.initial.store (packet_of l.arrival) l.i) (reads_of l.rows) l.store × (length l.rows ≡ length l.initial.rows)
