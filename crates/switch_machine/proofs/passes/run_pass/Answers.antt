use Rattle.std.proofs.Common.{◌∙◌, arith, refl}
use Rattle.flat_ir.specs.Registers.{packet_of}
use Rattle.switch_machine.proofs.PlacedSteps.{none_placed, stage_more}
use Rattle.switch_machine.proofs.passes.run_pass.Goals as goal

pub loop-stage-init : goal.loop-stage-init
loop-stage-init g c = record {
  written = none_placed c.args.stages.now (g.L.Lookup.seen c.args.tables.now) (packet_of c.args.arrival.now) c.args.registers.now;
  capacity = refl;
}

pub run_stage-requires-clause-can : goal.run_stage-requires-clause-can
run_stage-requires-clause-can g c = rw c.stage.ensures (c.requires.can c.loop-stage.stage)

pub run_stage-requires-clause-room : goal.run_stage-requires-clause-room
run_stage-requires-clause-room g c = rw c.stage.ensures (omega (arith, c.requires.room c.loop-stage.stage, c.loop-stage.invariant.capacity))

pub loop-stage-preserved : goal.loop-stage-preserved
loop-stage-preserved g c = record {
  written = stage_more c.args.stages.now (g.L.Lookup.seen c.args.tables.now) (packet_of c.args.arrival.now) c.args.registers.now
      c.loop-stage.stage c.stage.result.now c.stage.ensures c.loop-stage.registers c.run_stage.new.registers
      c.loop-stage.invariant.written c.run_stage.ensures.written;
  capacity = c.run_stage.ensures.capacity ∙ c.loop-stage.invariant.capacity;
}
