use Rattle.std.proofs.Common.{◌≡◌, ◌<◌, ap, ◌∙◌, arith}
use Rattle.element_lang.specs.View.{body_tree}
use Rattle.element_lang.specs.Meaning.{State, Outcome, bound, do_body}
use Rattle.element_interp.specs.Runs.{packet_of, frame_widths, state_of}
use Rattle.element_interp.proofs.Bindings.{either_binds, field_gets}
use Rattle.element_interp.proofs.Turns.{turn_goes}
use Rattle.element_interp.proofs.interp.+run.Goals as goal

-- a declaration, or an assignment
pub run_stmt-returns-in-Let : goal.run_stmt-returns-in-Let
run_stmt-returns-in-Let t c =
    cc (
      either_binds (frame_widths c.args.frame.now) (packet_of c.args.frame.now) c.args.s.now c.in-Let.local c.in-Let.e (state_of c.args.frame.now c.args.vars.now c.args.store.now) c.in-Let.is,
      c.value-bound.ensures c.args.store.now,
    )

pub run_stmt-returns-in-SetField : goal.run_stmt-returns-in-SetField
run_stmt-returns-in-SetField t c =
    cc (
      field_gets (frame_widths c.args.frame.now) (packet_of c.args.frame.now) c.args.s.now c.in-SetField.field c.in-SetField.e (state_of c.args.frame.now c.args.vars.now c.args.store.now) c.in-SetField.is,
      c.value-assigned.ensures c.args.store.now,
      c.assign.ensures c.args.frame.now.bytes.now c.args.frame.now.port,
    )

-- the turns that are left do what this one and then they did
pub run_turns-loop-turn-preserved : goal.run_turns-loop-turn-preserved
run_turns-loop-turn-preserved t c =
    let l = c.loop-turn in
    let go : State → Outcome = do_body (frame_widths c.args.frame.now) (packet_of c.args.frame.now) (body_tree c.args.body.now) in
    let before : State = state_of c.args.frame.now l.vars l.store in
    let turn : state_of c.args.frame.now c.set_local.new.self l.store ≡ bound c.args.index l.turn before = cc in
    let within : l.turn < c.args.count = omega arith in
    record {
      told = turn_goes c.args.count l.turn c.args.index go before (state_of c.args.frame.now c.run_body.new.vars c.run_body.new.store) within (c.in-Goes.ensures ∙ ap go turn) ∙ l.invariant.told;
      good = l.invariant.good;
    }
