use Rattle.std.proofs.Common.{◌∙◌}
use Rattle.flat_ir.specs.Program.{program_of}
use Rattle.flat_ir.specs.Registers.{reads_of, packet_of}
use Rattle.flat_ir.proofs.Steps.{turn_more}
use Rattle.flat_ir.proofs.eval.take_turns.Goals as goal

pub loop-i-preserved : goal.loop-i-preserved
loop-i-preserved c = (
  turn_more (program_of c.args.f.now) c.args.store.now (packet_of c.args.arrival.now) c.loop-i.i (reads_of c.loop-i.rows) c.loop-i.store (reads_of c.take_turn.new.rows) c.take_turn.new.store c.loop-i.invariant.0 c.take_turn.ensures.turn,
  c.take_turn.ensures.count ∙ c.loop-i.invariant.1,
)
