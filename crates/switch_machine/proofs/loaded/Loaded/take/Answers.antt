use Rattle.std.proofs.lemmas.Result.{on_err_weaker}
use Rattle.packet_fields.specs.declared.packet.Packet.{Packet}
use Rattle.flat_ir.specs.Blocks.{nothing}
use Rattle.switch_ir.specs.Code.{code_of}
use Rattle.switch_machine.specs.declared.sides.Side.TheVariants.{Before, Behind}
use Rattle.switch_machine.specs.Sides.{side_of}
use Rattle.switch_machine.specs.Staging.{Takes}
use Rattle.switch_machine.specs.UnderWay.{passes_on}
use Rattle.switch_machine.proofs.LoadedCode.{closed}
use Rattle.switch_machine.proofs.LeftByCalls.{undone}
use Rattle.switch_machine.proofs.loaded.Loaded.take.Goals as goal

-- ## A packet that arrives

pub up-requires-clause-size : goal.up-requires-clause-size
up-requires-clause-size c = let can = rw c.in-Up.is at c.requires.can in can.0

pub close-requires : goal.close-requires
close-requires c = rw c.in-Up.is tt

pub returns-in_ok-end-in-Up-clause-takes : goal.returns-in_ok-end-in-Up-clause-takes
returns-in_ok-end-in-Up-clause-takes c =
    let l = c.args.self.now in
    let e = c.args.event.now in
    closed c.in_ok-end-in-Up.end (passes_on (side_of e) c.up.new.self) (passes_on (side_of e) c.close.new.self)
    (λ x ps. Takes e (code_of l.code) c.args.tables.now x (passes_on (side_of e) l) ps) c.close.result
    (rw c.in-Up.is c.in_ok-end-in-Up.ensures.enters) c.close.ensures.end c.close.ensures.kept

pub returns-in_ok-end-in-Up-clause-kept : goal.returns-in_ok-end-in-Up-clause-kept
returns-in_ok-end-in-Up-clause-kept c =
    let l = c.args.self.now in
    let packet : Packet = record { port = c.in-Up.port; bytes = c.in-Up.packet.now } in
    let can = rw c.in-Up.is at c.requires.can in
    let was = rw c.in-Up.is at c.close.ensures.undone in
    rw c.in-Up.is (on_err_weaker c.close.result
    (undone Before (code_of l.code) c.args.tables.now c.in-Up.whole c.in-Up.number packet nothing c.in_ok-end-in-Up.end
    (passes_on Before l) (passes_on Before c.up.new.self) (passes_on Before c.close.new.self) c.in_ok-end-in-Up.ensures.enters can.1) was)

-- ## A frame that comes down

pub down-requires-clause-frame : goal.down-requires-clause-frame
down-requires-clause-frame c = let can = rw c.in-Down.is at c.requires.can in can.0

pub close-requires-in-Down : goal.close-requires-in-Down
close-requires-in-Down c = rw c.in-Down.is c.in_ok-made-in-Down.ensures.side

pub returns-in_ok-made-in-Down-clause-takes : goal.returns-in_ok-made-in-Down-clause-takes
returns-in_ok-made-in-Down-clause-takes c =
    let l = c.args.self.now in
    let e = c.args.event.now in
    closed c.in_ok-made-in-Down.made.1 (passes_on (side_of e) c.down.new.self) (passes_on (side_of e) c.close-in-Down.new.self)
    (λ x ps. Takes e (code_of l.code) c.args.tables.now x (passes_on (side_of e) l) ps) c.close-in-Down.result
    (rw c.in-Down.is c.in_ok-made-in-Down.ensures.enters) c.close-in-Down.ensures.end c.close-in-Down.ensures.kept

pub returns-in_ok-made-in-Down-clause-kept : goal.returns-in_ok-made-in-Down-clause-kept
returns-in_ok-made-in-Down-clause-kept c =
    let l = c.args.self.now in
    let can = rw c.in-Down.is at c.requires.can in
    let f = can.0 in
    let was = rw (c.in-Down.is, c.in_ok-made-in-Down.ensures.number f.number f.port f.values f.packet f.is) at c.close-in-Down.ensures.undone in
    rw c.in-Down.is (on_err_weaker c.close-in-Down.result
    (undone Behind (code_of l.code) c.args.tables.now c.in-Down.whole f.number _ _ c.in_ok-made-in-Down.made.1
    (passes_on Behind l) (passes_on Behind c.down.new.self) (passes_on Behind c.close-in-Down.new.self)
    (c.in_ok-made-in-Down.ensures.enters f.number f.port f.values f.packet f.is) (λ whole. can.1 whole f.number f.port f.values f.packet f.is)) was)

-- ## A stage

pub stage-requires-clause-has_pass : goal.stage-requires-clause-has_pass
stage-requires-clause-has_pass c = rw c.in-Stage.is at c.requires.can

pub returns-in-Stage-clause-takes : goal.returns-in-Stage-clause-takes
returns-in-Stage-clause-takes c = rw c.in-Stage.is c.stage.ensures.stages
